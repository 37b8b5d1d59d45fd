-- The body is empty, or behind the gap, or behind the header.
use mathlib.Core.Path.{sym, ◌∙◌}
use Rattle.header_parts.proofs.PartsRead.{body-empty, body-behind, body-short, body-aligned}
use Rattle.header_parts.proofs.body_at.Goals as goal

pub returns-then-length-end : goal.returns-then-length-end
returns-then-length-end c = sym (body-empty c.args.length c.args.end c.args.minor c.if-length-end.true)

pub returns-then-length-end-2 : goal.returns-then-length-end-2
returns-then-length-end-2 c =
    sym (body-short c.args.length c.args.end c.args.minor c.if-length-end.false (sym c.body_in_eights.ensures
    ∙ c.if-body_in_eights.true) (rw c.gap-gap.ensures at c.if-length-end-2.true))

pub returns-then-body_in_eights : goal.returns-then-body_in_eights
returns-then-body_in_eights c =
    rw c.gap-gap.ensures (sym (body-aligned c.args.length c.args.end c.args.minor c.if-length-end.false (sym c.body_in_eights.ensures
    ∙ c.if-body_in_eights.true) (rw c.gap-gap.ensures at c.if-length-end-2.false)))

pub returns : goal.returns
returns c = sym (body-behind c.args.length c.args.end c.args.minor c.if-length-end.false (sym c.body_in_eights.ensures ∙ c.if-body_in_eights.false))
