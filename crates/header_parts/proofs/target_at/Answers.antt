-- The kind, then what follows it.
use mathlib.Core.Path.{sym, ◌∙◌}
use native.Mathlib.Omega.{arith}
use borrow.Author.Tests.{ne_eqb}
use Rattle.header_parts.proofs.Ended.{exit-none}
use Rattle.header_parts.proofs.PartsRead.{target_is}
use Rattle.header_parts.proofs.target_at.Goals as goal

pub returns-in_err-kind : goal.returns-in_err-kind
returns-in_err-kind c =
    let none = exit-none c.from_residual.ensures.1 c.ok_or.ensures.value c.in_err-kind.was in
    none.1 ∙ sym (target_is c.args.s.now c.args.at c.args.order _ (sym c.read_field.ensures ∙ none.0))

pub returns-in-0 : goal.returns-in-0
returns-in-0 c = c.key_target.ensures ∙ sym (target_is c.args.s.now c.args.at c.args.order _ (sym c.read_field.ensures ∙ c.in_ok-kind.ensures.ok_part) ∙ rw c.in-0.is)

pub returns-in-1 : goal.returns-in-1
returns-in-1 c = c.profile_target.ensures ∙ sym (target_is c.args.s.now c.args.at c.args.order _ (sym c.read_field.ensures ∙ c.in_ok-kind.ensures.ok_part) ∙ rw c.in-1.is)

pub returns-in-2 : goal.returns-in-2
returns-in-2 c = c.reference_target.ensures ∙ sym (target_is c.args.s.now c.args.at c.args.order _ (sym c.read_field.ensures ∙ c.in_ok-kind.ensures.ok_part) ∙ rw c.in-2.is)

pub returns-in_default : goal.returns-in_default
returns-in_default c =
    let k = c.in_ok-kind.kind in
    sym (target_is c.args.s.now c.args.at c.args.order _ (sym c.read_field.ensures ∙ c.in_ok-kind.ensures.ok_part)
    ∙ rw (ne_eqb k 0 (omega (arith, c.in_default)), ne_eqb k 1 (omega (arith, c.in_default)), ne_eqb k 2 (omega (arith, c.in_default))))
