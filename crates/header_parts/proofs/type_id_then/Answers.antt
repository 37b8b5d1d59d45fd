-- The text, then the list.
use mathlib.Core.Path.{sym, ◌∙◌}
use Rattle.choices.proofs.Exits.{exit-error}
use Rattle.header_parts.proofs.Ended.{exit-none}
use Rattle.header_parts.proofs.PartsRead.{type-id-is, profiles-are}
use Rattle.header_parts.proofs.type_id_then.Goals as goal

pub returns-in_err-id : goal.returns-in_err-id
returns-in_err-id c =
    exit-error c.from_residual.ensures.1 ∙ sym (type-id-is c.args.s.now c.args.at c.args.order c.args.index _ (sym c.text_at.ensures ∙ c.in_err-id.was))

pub returns-in_err-profiles : goal.returns-in_err-profiles
returns-in_err-profiles c =
    let none = exit-none c.from_residual-in_err-profiles.ensures.1 c.ok_or.ensures.value c.in_err-profiles.was in
    none.1 ∙ sym (profiles-are c.args.s.now c.args.at c.args.order c.args.index _ _ (sym c.text_at.ensures ∙ c.in_ok-id.was) _ (sym c.tagged_list_at.ensures ∙ none.0))

pub returns : goal.returns
returns c =
    sym (profiles-are c.args.s.now c.args.at c.args.order c.args.index _ _ (sym c.text_at.ensures ∙ c.in_ok-id.was) _
    (sym c.tagged_list_at.ensures ∙ c.in_ok-profiles.ensures.ok_part))
