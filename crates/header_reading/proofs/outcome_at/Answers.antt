-- The parts one after the other.
use mathlib.Core.Path.{sym, ◌∙◌}
use Rattle.choices.proofs.Exits.{exit-error}
use Rattle.header_parts.proofs.Ended.{exit-none}
use Rattle.header_reading.proofs.PartSteps.{id-step, status-step}
use Rattle.header_reading.proofs.outcome_at.Goals as goal

pub returns-in_err-id : goal.returns-in_err-id
returns-in_err-id c =
    let none = exit-none c.from_residual.ensures.1 c.ok_or.ensures.value c.in_err-id.was in
    rw none.1 (record { reads = λ xs f. id-step c.args.s.now c.args.order c.args.minor _ f c.args.at _ (sym c.read_field.ensures ∙ none.0) })

pub returns-in_err-status : goal.returns-in_err-status
returns-in_err-status c =
    let error = exit-error c.from_residual-in_err-status.ensures.1 in
    rw error (record {
      reads = λ xs f. id-step c.args.s.now c.args.order c.args.minor _ f c.args.at _ (sym c.read_field.ensures ∙ c.in_ok-id.ensures.ok_part)
          ∙ status-step c.args.s.now c.args.order c.args.minor _ _ _ _ (sym c.status_at.ensures ∙ c.in_err-status.was);
    })

pub returns : goal.returns
returns c =
    record {
      reads = λ xs f. id-step c.args.s.now c.args.order c.args.minor _ f c.args.at _ (sym c.read_field.ensures ∙ c.in_ok-id.ensures.ok_part)
          ∙ status-step c.args.s.now c.args.order c.args.minor _ _ _ _ (sym c.status_at.ensures ∙ c.in_ok-status.was);
    }
