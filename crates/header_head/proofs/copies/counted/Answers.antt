-- The count, then the octets.
use mathlib.Core.Path.{sym, ◌∙◌}
use Rattle.header_head.proofs.CopiedPieces.{counted-copies}
use Rattle.header_head.proofs.copies.counted.Goals as goal

pub returns-in-Some : goal.returns-in-Some
returns-in-Some c =
    counted-copies c.args.s.now c.args.order c.args.at c.args.out.now _ _ (sym c.counted_at.ensures
    ∙ c.in-Some.is) _ _ c.number-from.ensures _ c.octets_in.ensures.octets _ _ c.write_octets.ensures
