-- The tag, then the octets behind their count.
use Rattle.header_head.proofs.CopiedPieces.{tagged-copies}
use Rattle.header_head.proofs.copies.tagged.Goals as goal

pub returns : goal.returns
returns c =
    tagged-copies c.args.s.now c.args.order c.args.at c.args.out.now _ _ c.number-behind.ensures _ _ c.counted.ensures
