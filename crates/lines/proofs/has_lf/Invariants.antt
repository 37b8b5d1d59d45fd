-- What has been judged so far, with what is left, gives the answer for all.
use mathlib.Core.Path.{◌≡◌}
use mathlib.Core.Bool.{◌||◌}
use lib.ListN.{drop}
use Rattle.lines.specs.Lines.{has_lf}
use Rattle.lines.proofs.has_lf.Given as goal

abbrev pub invariant-loop-c : goal.invariant-loop-c
invariant-loop-c l = (l.met || has_lf (drop l.c-index l.characters)) ≡ has_lf l.characters
