-- The field, then the rule of the version.
use mathlib.Core.Path.{sym, ◌∙◌}
use Rattle.header_parts.proofs.Ended.{exit-none}
use Rattle.header_parts.proofs.PartsRead.{status-none, status-is}
use Rattle.header_parts.proofs.status_at.Goals as goal

pub returns-in_err-value : goal.returns-in_err-value
returns-in_err-value c =
    let none = exit-none c.from_residual.ensures.1 c.ok_or.ensures.value c.in_err-value.was in
    none.1 ∙ sym (status-none c.args.s.now c.args.at c.args.order c.args.minor (sym c.read_field.ensures ∙ none.0))

pub returns-then-status_exists : goal.returns-then-status_exists
returns-then-status_exists c =
    sym (status-is c.args.s.now c.args.at c.args.order c.args.minor _ _ (sym c.read_field.ensures ∙ c.in_ok-value.ensures.ok_part) _ (sym c.status_exists.ensures ∙ c.if-status_exists.true))

pub returns-else-status_exists : goal.returns-else-status_exists
returns-else-status_exists c =
    sym (status-is c.args.s.now c.args.at c.args.order c.args.minor _ _ (sym c.read_field.ensures ∙ c.in_ok-value.ensures.ok_part) _ (sym c.status_exists.ensures ∙ c.if-status_exists.false))
