-- No place below has the open message of the id.
use Rattle.std.specs.Prelude.{None}
use mathlib.Core.Path.{◌≡◌}
use Rattle.join_places.specs.Places.{first_with, is_open_with}
use Rattle.join_places.proofs.place_of.Given as goal

abbrev pub invariant-loop-i : goal.invariant-loop-i
invariant-loop-i l = first_with (is_open_with l.r l.id) l.i ≡ None
