-- No place below has an open message of the same id.
use mathlib.Core.Path.{◌≡◌}
use mathlib.Core.Bool.{false}
use Rattle.join_places.specs.Places.{some_with, both_open}
use Rattle.join_places.proofs.open_before.Given as goal

abbrev pub invariant-loop-j : goal.invariant-loop-j
invariant-loop-j l = some_with (both_open l.r l.i) l.j ≡ false
