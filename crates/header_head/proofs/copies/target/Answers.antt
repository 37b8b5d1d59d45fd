-- The kind, then what stands behind it.
use mathlib.Core.Path.{sym, ◌∙◌}
use Rattle.header_head.proofs.CopiedParts.{target-copies, target_none}
use Rattle.header_head.proofs.copies.target.Goals as goal

pub returns-in-Some : goal.returns-in-Some
returns-in-Some c =
    target-copies c.args.s.now c.args.order c.args.at c.args.out.now _ _ (sym c.read_field.ensures
    ∙ c.in-Some.is) _ _ c.number-behind.ensures _ _ c.of_kind.ensures

pub returns-in-None : goal.returns-in-None
returns-in-None c =
    target_none c.args.s.now c.args.order c.args.at c.args.out.now (sym c.read_field.ensures ∙ c.in-None.is) _ _
