-- No place below is free.
use Rattle.std.specs.Prelude.{None}
use mathlib.Core.Path.{◌≡◌}
use mathlib.Core.Bool.{not}
use Rattle.join_places.specs.Places.{first_with, is_open}
use Rattle.join_places.proofs.lowest_free.Given as goal

abbrev pub invariant-loop-i : goal.invariant-loop-i
invariant-loop-i l = first_with (λ j. not (is_open l.fn.r j)) l.i ≡ None
