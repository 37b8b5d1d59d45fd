-- The parts one after the other, then the body.
use mathlib.Core.Path.{sym, subst, ◌∙◌}
use mathlib.Core.Bool.{true}
use Rattle.choices.proofs.Exits.{exit-error}
use Rattle.header_layout.specs.Layout.{early_request}
use Rattle.header_parts.proofs.Ended.{exit-none}
use Rattle.header_reading.specs.Reading.{no_fields}
use Rattle.header_reading.specs.Groups.{ReadsCall, ReadsKeyAddress}
use Rattle.header_reading.proofs.PartSteps.{contexts-step, principal-step}
use Rattle.header.specs.Header.{header_start}
use Rattle.header.proofs.HeadersRead.{by_parts, ended_is}
use Rattle.header.proofs.early_request.Goals as goal

pub returns-in_err-contexts : goal.returns-in_err-contexts
returns-in_err-contexts c =
    let none = exit-none c.from_residual.ensures.1 c.ok_or.ensures.value c.in_err-contexts.was in
    none.1 ∙ sym (by_parts c.args.s.now true c.args.order c.args.minor early_request _
    (contexts-step c.args.s.now c.args.order c.args.minor _ no_fields header_start _ (sym c.tagged_list_at.ensures ∙ none.0)))

pub returns-in_err-call : goal.returns-in_err-call
returns-in_err-call c =
    exit-error c.from_residual-in_err-call.ensures.1 ∙ sym (by_parts c.args.s.now true c.args.order c.args.minor early_request _
    (contexts-step c.args.s.now c.args.order c.args.minor _ no_fields header_start _ (sym c.tagged_list_at.ensures ∙ c.in_ok-contexts.ensures.ok_part)
    ∙ (subst (ReadsCall c.args.s.now c.args.order c.args.minor _) c.in_err-call.was c.call_at.ensures).reads _ _))

pub returns-in_err-address : goal.returns-in_err-address
returns-in_err-address c =
    exit-error c.from_residual-in_err-address.ensures.1 ∙ sym (by_parts c.args.s.now true c.args.order c.args.minor early_request _
    (contexts-step c.args.s.now c.args.order c.args.minor _ no_fields header_start _ (sym c.tagged_list_at.ensures ∙ c.in_ok-contexts.ensures.ok_part)
    ∙ (subst (ReadsCall c.args.s.now c.args.order c.args.minor _) c.in_ok-call.was c.call_at.ensures).reads _ _
    ∙ (subst (ReadsKeyAddress c.args.s.now c.args.order c.args.minor _) c.in_err-address.was c.key_address_at.ensures).reads _ _))

pub returns-in_err-principal : goal.returns-in_err-principal
returns-in_err-principal c =
    let none = exit-none c.from_residual-in_err-principal.ensures.1 c.ok_or-2.ensures.value c.in_err-principal.was in
    none.1 ∙ sym (by_parts c.args.s.now true c.args.order c.args.minor early_request _
    (contexts-step c.args.s.now c.args.order c.args.minor _ no_fields header_start _ (sym c.tagged_list_at.ensures ∙ c.in_ok-contexts.ensures.ok_part)
    ∙ (subst (ReadsCall c.args.s.now c.args.order c.args.minor _) c.in_ok-call.was c.call_at.ensures).reads _ _
    ∙ (subst (ReadsKeyAddress c.args.s.now c.args.order c.args.minor _) c.in_ok-address.was c.key_address_at.ensures).reads _ _
    ∙ principal-step c.args.s.now c.args.order c.args.minor _ _ _ _ (sym c.counted_at.ensures ∙ none.0)))

pub returns-in_err-body : goal.returns-in_err-body
returns-in_err-body c =
    exit-error c.from_residual-in_err-body.ensures.1 ∙ sym (by_parts c.args.s.now true c.args.order c.args.minor early_request _
    (contexts-step c.args.s.now c.args.order c.args.minor _ no_fields header_start _ (sym c.tagged_list_at.ensures ∙ c.in_ok-contexts.ensures.ok_part)
    ∙ (subst (ReadsCall c.args.s.now c.args.order c.args.minor _) c.in_ok-call.was c.call_at.ensures).reads _ _
    ∙ (subst (ReadsKeyAddress c.args.s.now c.args.order c.args.minor _) c.in_ok-address.was c.key_address_at.ensures).reads _ _
    ∙ principal-step c.args.s.now c.args.order c.args.minor _ _ _ _ (sym c.counted_at.ensures ∙ c.in_ok-principal.ensures.ok_part))
    ∙ ended_is c.args.s.now true c.args.order c.args.minor _ _ _ (sym c.body_at.ensures ∙ c.in_err-body.was))

pub returns : goal.returns
returns c =
    sym (by_parts c.args.s.now true c.args.order c.args.minor early_request _
    (contexts-step c.args.s.now c.args.order c.args.minor _ no_fields header_start _ (sym c.tagged_list_at.ensures ∙ c.in_ok-contexts.ensures.ok_part)
    ∙ (subst (ReadsCall c.args.s.now c.args.order c.args.minor _) c.in_ok-call.was c.call_at.ensures).reads _ _
    ∙ (subst (ReadsKeyAddress c.args.s.now c.args.order c.args.minor _) c.in_ok-address.was c.key_address_at.ensures).reads _ _
    ∙ principal-step c.args.s.now c.args.order c.args.minor _ _ _ _ (sym c.counted_at.ensures ∙ c.in_ok-principal.ensures.ok_part))
    ∙ ended_is c.args.s.now true c.args.order c.args.minor _ _ _ (sym c.body_at.ensures ∙ c.in_ok-body.was))
