-- What was found before, or is found in what is left of the octets, is what all of them have.
use mathlib.Core.Path.{◌≡◌}
use mathlib.Core.Bool.{◌||◌}
use lib.ListN.{drop}
use Rattle.cdr_text.specs.Text.{has_zero}
use Rattle.cdr_text.proofs.has_zero.Given as goal

abbrev pub invariant-loop-octet : goal.invariant-loop-octet
invariant-loop-octet l = (l.found || has_zero (drop l.octet-index l.s)) ≡ has_zero l.s
