-- The index, then the reference.
use mathlib.Core.Path.{sym, ◌∙◌}
use Rattle.header_parts.proofs.Ended.{exit-none}
use Rattle.header_parts.proofs.PartsRead.{reference-is}
use Rattle.header_parts.proofs.reference_target.Goals as goal

pub returns-in_err-index : goal.returns-in_err-index
returns-in_err-index c =
    let none = exit-none c.from_residual.ensures.1 c.ok_or.ensures.value c.in_err-index.was in
    none.1 ∙ sym (reference-is c.args.s.now c.args.at c.args.order _ (sym c.read_field.ensures ∙ none.0))

pub returns : goal.returns
returns c = c.type_id_then.ensures ∙ sym (reference-is c.args.s.now c.args.at c.args.order _ (sym c.read_field.ensures ∙ c.in_ok-index.ensures.ok_part))
