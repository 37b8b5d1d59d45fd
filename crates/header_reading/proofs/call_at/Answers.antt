-- The parts one after the other.
use mathlib.Core.Path.{sym, ap, ◌∙◌}
use Rattle.cdr_text.specs.Text.{run_of}
use Rattle.choices.proofs.Exits.{exit-error}
use Rattle.header_parts.proofs.Ended.{exit-none}
use Rattle.header_reading.proofs.PartSteps.{id-step, response-step, reserved-step}
use Rattle.header_reading.proofs.call_at.Goals as goal

pub returns-in_err-id : goal.returns-in_err-id
returns-in_err-id c =
    let none = exit-none c.from_residual.ensures.1 c.ok_or.ensures.value c.in_err-id.was in
    rw none.1 (record { reads = λ xs f. id-step c.args.s.now c.args.order c.args.minor _ f c.args.at _ (sym c.read_field.ensures ∙ none.0) })

pub returns-in_err-response : goal.returns-in_err-response
returns-in_err-response c =
    let error = exit-error c.from_residual-in_err-response.ensures.1 in
    rw error (record {
      reads = λ xs f.
          id-step c.args.s.now c.args.order c.args.minor _ f c.args.at _ (sym c.read_field.ensures ∙ c.in_ok-id.ensures.ok_part)
          ∙ response-step c.args.s.now c.args.order c.args.minor _ _ _ _ (sym c.response_at.ensures ∙ c.in_err-response.was);
    })

pub returns-in_err-end : goal.returns-in_err-end
returns-in_err-end c =
    let none = exit-none c.from_residual-in_err-end.ensures.1 c.ok_or-2.ensures.value c.in_err-end.was in
    rw none.1 (record {
      reads = λ xs f.
          id-step c.args.s.now c.args.order c.args.minor _ f c.args.at _ (sym c.read_field.ensures ∙ c.in_ok-id.ensures.ok_part)
          ∙ response-step c.args.s.now c.args.order c.args.minor _ _ _ _ (sym c.response_at.ensures ∙ c.in_ok-response.was)
          ∙ reserved-step c.args.s.now c.args.order c.args.minor _ _ _ _ (ap (run_of c.args.s.now _) (sym c.reserved_octets-reserved.ensures)
          ∙ sym c.read_run.ensures ∙ none.0);
    })

pub returns : goal.returns
returns c =
    record {
      reads = λ xs f.
          id-step c.args.s.now c.args.order c.args.minor _ f c.args.at _ (sym c.read_field.ensures ∙ c.in_ok-id.ensures.ok_part)
          ∙ response-step c.args.s.now c.args.order c.args.minor _ _ _ _ (sym c.response_at.ensures ∙ c.in_ok-response.was)
          ∙ reserved-step c.args.s.now c.args.order c.args.minor _ _ _ _ (ap (run_of c.args.s.now _) (sym c.reserved_octets-reserved.ensures)
          ∙ sym c.read_run.ensures ∙ c.in_ok-end.ensures.ok_part);
    }
