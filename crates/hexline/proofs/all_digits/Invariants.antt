-- What `all_digits` has judged so far, with what is left of the characters, gives the answer for all of them.
use mathlib.Core.Path.{◌≡◌}
use mathlib.Core.Bool.{◌&&◌}
use lib.ListN.{drop}
use Rattle.hexline.specs.Decoding.{all_digits}
use Rattle.hexline.proofs.all_digits.Given as goal

abbrev pub invariant-loop-c : goal.invariant-loop-c
invariant-loop-c l = (l.all && all_digits (drop l.c-index l.characters)) ≡ all_digits l.characters
