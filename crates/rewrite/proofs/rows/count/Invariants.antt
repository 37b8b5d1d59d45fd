-- Items one after the other.
use mathlib.Core.Path.{◌≡◌}
use Rattle.rewrite.specs.Inner.{reach, row_of}
use Rattle.rewrite.proofs.rows.count.Given as goal

abbrev pub invariant-loop-k : goal.invariant-loop-k
invariant-loop-k l = l.at ≡ reach l.index (row_of l.rows) l.k
