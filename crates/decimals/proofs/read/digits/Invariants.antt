-- What is left of the word, behind the number so far, makes the word's number.
use mathlib.Core.Path.{◌≡◌}
use Prim.Native.Nat.{◌≤◌}
use lib.ListN.{drop}
use Rattle.decimals.specs.Numerals.{most_number, number_from}
use Rattle.decimals.proofs.read.digits.Given as goal

abbrev pub invariant-loop-c : goal.invariant-loop-c
invariant-loop-c l = (l.x ≤ most_number) × (number_from l.x (drop l.c-index l.word) ≡ number_from 0 l.word)
