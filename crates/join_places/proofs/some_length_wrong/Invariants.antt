-- No length so far is out of its range.
use mathlib.Core.Path.{◌≡◌}
use mathlib.Core.Bool.{false}
use Rattle.join_places.specs.Places.{some_with, length_wrong}
use Rattle.join_places.proofs.some_length_wrong.Given as goal

abbrev pub invariant-loop-i : goal.invariant-loop-i
invariant-loop-i l = some_with (length_wrong l.r) l.i ≡ false
