-- Round by round.
use mathlib.Core.Path.{◌≡◌}
use Prim.Native.Nat.{◌≤◌}
use lib.ListN.{length}
use Rattle.type_numbers.specs.{kinds_limit}
use Rattle.type_loops.specs.Inner.{Closed}
use Rattle.type_loops.proofs.closed.Given as goal

abbrev pub invariant-loop-k : goal.invariant-loop-k
invariant-loop-k l = (l.k ≤ l.n) × (length l.rows ≡ kinds_limit) × Closed l.n l.k l.initial.rows l.rows
