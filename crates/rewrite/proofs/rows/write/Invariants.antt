-- Items one after the other.
use mathlib.Core.Path.{◌≡◌}
use lib.ListN.{length}
use lib.Seq.{sets}
use Rattle.rewrite_meaning.specs.Written.{target}
use Rattle.rewrite.specs.Inner.{up_to, reach, row_of}
use Rattle.rewrite.proofs.rows.write.Given as goal

abbrev pub invariant-loop-k : goal.invariant-loop-k
invariant-loop-k l =
    (l.at ≡ reach l.index (row_of l.rows) l.k)
    × (length l.out ≡ length l.initial.out)
    × (l.out ≡ sets l.initial.out 0 (up_to (target l.order l.index) l.value (row_of l.rows) l.k))
