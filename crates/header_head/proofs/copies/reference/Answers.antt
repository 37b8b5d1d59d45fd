-- The index, the type id, then the profiles.
use Rattle.header_head.proofs.CopiedParts.{reference-copies}
use Rattle.header_head.proofs.copies.reference.Goals as goal

pub returns : goal.returns
returns c =
    reference-copies c.args.s.now c.args.order c.args.at c.args.out.now _ _ c.number-id.ensures _ _ c.counted-profiles.ensures _ _ c.list.ensures
