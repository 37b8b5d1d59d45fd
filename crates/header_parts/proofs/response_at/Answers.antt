-- The field, then the rule of the version.
use mathlib.Core.Path.{sym, ◌∙◌}
use Rattle.header_parts.proofs.Ended.{exit-none}
use Rattle.header_parts.proofs.PartsRead.{response-none, response-is}
use Rattle.header_parts.proofs.response_at.Goals as goal

pub returns-in_err-value : goal.returns-in_err-value
returns-in_err-value c =
    let none = exit-none c.from_residual.ensures.1 c.ok_or.ensures.value c.in_err-value.was in
    none.1 ∙ sym (response-none c.args.s.now c.args.at c.args.order c.args.minor (sym c.read_field.ensures ∙ none.0))

pub returns-then-response_allowed : goal.returns-then-response_allowed
returns-then-response_allowed c =
    sym (response-is c.args.s.now c.args.at c.args.order c.args.minor _ _ (sym c.read_field.ensures ∙ c.in_ok-value.ensures.ok_part) _ (sym c.response_allowed.ensures ∙ c.if-response_allowed.true))

pub returns-else-response_allowed : goal.returns-else-response_allowed
returns-else-response_allowed c =
    sym (response-is c.args.s.now c.args.at c.args.order c.args.minor _ _ (sym c.read_field.ensures ∙ c.in_ok-value.ensures.ok_part) _ (sym c.response_allowed.ensures ∙ c.if-response_allowed.false))
