-- The flags so far are counted.
use mathlib.Core.Path.{◌≡◌}
use Rattle.join_places.specs.Places.{open_at, sum_over}
use Rattle.join_places.proofs.open_count.Given as goal

abbrev pub invariant-loop-open : goal.invariant-loop-open
invariant-loop-open l = l.count ≡ sum_over (open_at l.fn.r) l.open-index
