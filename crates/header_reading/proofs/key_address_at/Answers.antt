-- The parts one after the other.
use mathlib.Core.Path.{sym, ◌∙◌}
use Rattle.choices.proofs.Exits.{exit-error}
use Rattle.header_reading.proofs.PartSteps.{key_step, operation-step}
use Rattle.header_reading.proofs.key_address_at.Goals as goal

pub returns-in_err-target : goal.returns-in_err-target
returns-in_err-target c =
    let error = exit-error c.from_residual.ensures.1 in
    rw error (record { reads = λ xs f. key_step c.args.s.now c.args.order c.args.minor _ f c.args.at _ (sym c.key_target.ensures ∙ c.in_err-target.was) })

pub returns-in_err-operation : goal.returns-in_err-operation
returns-in_err-operation c =
    let error = exit-error c.from_residual-in_err-operation.ensures.1 in
    rw error (record {
      reads = λ xs f. key_step c.args.s.now c.args.order c.args.minor _ f c.args.at _ (sym c.key_target.ensures ∙ c.in_ok-target.was)
          ∙ operation-step c.args.s.now c.args.order c.args.minor _ _ _ _ (sym c.text_at.ensures ∙ c.in_err-operation.was);
    })

pub returns : goal.returns
returns c =
    record {
      reads = λ xs f. key_step c.args.s.now c.args.order c.args.minor _ f c.args.at _ (sym c.key_target.ensures ∙ c.in_ok-target.was)
          ∙ operation-step c.args.s.now c.args.order c.args.minor _ _ _ _ (sym c.text_at.ensures ∙ c.in_ok-operation.was);
    }
