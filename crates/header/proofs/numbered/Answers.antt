-- 69, or the tagged octets behind the others.
use mathlib.Core.Path.{sym, ◌∙◌}
use Rattle.header_parts.proofs.Ended.{exit-none}
use Rattle.header.proofs.HeadersRead.{not-numbered, numbered_is}
use Rattle.header.proofs.numbered.Goals as goal

pub returns-then-list-number : goal.returns-then-list-number
returns-then-list-number c = sym (not-numbered c.args.s.now c.args.list c.args.order c.args.number c.if-list-number.true)

pub returns-in_err-tag : goal.returns-in_err-tag
returns-in_err-tag c =
    let none = exit-none c.from_residual.ensures.1 c.ok_or.ensures.value c.in_err-tag.was in
    none.1 ∙ sym (numbered_is c.args.s.now c.args.list c.args.order c.args.number c.if-list-number.false _ (sym c.tagged_behind.ensures ∙ none.0))

pub returns : goal.returns
returns c =
    sym (numbered_is c.args.s.now c.args.list c.args.order c.args.number c.if-list-number.false _
    (sym c.tagged_behind.ensures ∙ c.in_ok-tag.ensures.ok_part))
