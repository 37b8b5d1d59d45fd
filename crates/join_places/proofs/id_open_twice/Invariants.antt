-- No place so far has the id of an earlier one.
use mathlib.Core.Path.{◌≡◌}
use mathlib.Core.Bool.{false}
use Rattle.join_places.specs.Places.{some_with, open_before}
use Rattle.join_places.proofs.id_open_twice.Given as goal

abbrev pub invariant-loop-i : goal.invariant-loop-i
invariant-loop-i l = some_with (open_before l.r) l.i ≡ false
