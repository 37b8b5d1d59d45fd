-- The parts one after the other, then the body.
use mathlib.Core.Path.{sym, subst, ◌∙◌}
use mathlib.Core.Bool.{false}
use Rattle.choices.proofs.Exits.{exit-error}
use Rattle.header_layout.specs.Layout.{early_reply}
use Rattle.header_parts.proofs.Ended.{exit-none}
use Rattle.header_reading.specs.Reading.{no_fields}
use Rattle.header_reading.specs.Groups.{ReadsOutcome}
use Rattle.header_reading.proofs.PartSteps.{contexts-step}
use Rattle.header.specs.Header.{header_start}
use Rattle.header.proofs.HeadersRead.{by_parts, ended_is}
use Rattle.header.proofs.early_reply.Goals as goal

pub returns-in_err-contexts : goal.returns-in_err-contexts
returns-in_err-contexts c =
    let none = exit-none c.from_residual.ensures.1 c.ok_or.ensures.value c.in_err-contexts.was in
    none.1 ∙ sym (by_parts c.args.s.now false c.args.order c.args.minor early_reply _
    (contexts-step c.args.s.now c.args.order c.args.minor _ no_fields header_start _ (sym c.tagged_list_at.ensures ∙ none.0)))

pub returns-in_err-outcome : goal.returns-in_err-outcome
returns-in_err-outcome c =
    exit-error c.from_residual-in_err-outcome.ensures.1 ∙ sym (by_parts c.args.s.now false c.args.order c.args.minor early_reply _
    (contexts-step c.args.s.now c.args.order c.args.minor _ no_fields header_start _ (sym c.tagged_list_at.ensures ∙ c.in_ok-contexts.ensures.ok_part)
    ∙ (subst (ReadsOutcome c.args.s.now c.args.order c.args.minor _) c.in_err-outcome.was c.outcome_at.ensures).reads _ _))

pub returns-in_err-body : goal.returns-in_err-body
returns-in_err-body c =
    exit-error c.from_residual-in_err-body.ensures.1 ∙ sym (by_parts c.args.s.now false c.args.order c.args.minor early_reply _
    (contexts-step c.args.s.now c.args.order c.args.minor _ no_fields header_start _ (sym c.tagged_list_at.ensures ∙ c.in_ok-contexts.ensures.ok_part)
    ∙ (subst (ReadsOutcome c.args.s.now c.args.order c.args.minor _) c.in_ok-outcome.was c.outcome_at.ensures).reads _ _)
    ∙ ended_is c.args.s.now false c.args.order c.args.minor _ _ _ (sym c.body_at.ensures ∙ c.in_err-body.was))

pub returns : goal.returns
returns c =
    sym (by_parts c.args.s.now false c.args.order c.args.minor early_reply _
    (contexts-step c.args.s.now c.args.order c.args.minor _ no_fields header_start _ (sym c.tagged_list_at.ensures ∙ c.in_ok-contexts.ensures.ok_part)
    ∙ (subst (ReadsOutcome c.args.s.now c.args.order c.args.minor _) c.in_ok-outcome.was c.outcome_at.ensures).reads _ _)
    ∙ ended_is c.args.s.now false c.args.order c.args.minor _ _ _ (sym c.body_at.ensures ∙ c.in_ok-body.was))
