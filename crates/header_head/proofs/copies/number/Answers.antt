-- The field, and its piece.
use mathlib.Core.Path.{sym, ◌∙◌}
use Rattle.header_head.proofs.CopiedPieces.{number-copies}
use Rattle.header_head.proofs.copies.number.Goals as goal

pub returns-in-Some : goal.returns-in-Some
returns-in-Some c =
    number-copies c.args.s.now c.args.order c.args.at c.args.out.now c.args.size _ _ (sym c.read_field.ensures
    ∙ c.in-Some.is) _ _ c.put_number.ensures
