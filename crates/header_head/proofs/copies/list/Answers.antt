-- The count, then so many.
use mathlib.Core.Path.{sym, ◌∙◌}
use Rattle.header_head.proofs.CopiedPieces.{list-copies, list-none}
use Rattle.header_head.proofs.copies.list.Goals as goal

pub returns-in-Some : goal.returns-in-Some
returns-in-Some c =
    list-copies c.args.s.now c.args.order c.args.at c.args.out.now _ _ (sym c.read_field.ensures
    ∙ c.in-Some.is) _ _ c.number-first.ensures _ _ c.entries.ensures

pub returns-in-None : goal.returns-in-None
returns-in-None c =
    list-none c.args.s.now c.args.order c.args.at c.args.out.now (sym c.read_field.ensures ∙ c.in-None.is) _ _
