-- The text rule's answer.
use mathlib.Core.Path.{sym, ◌∙◌}
use Rattle.choices.proofs.Exits.{exit-error}
use Rattle.header_parts.proofs.PartsRead.{text-is}
use Rattle.header_parts.proofs.text_at.Goals as goal

pub returns-in_err-string_at : goal.returns-in_err-string_at
returns-in_err-string_at c =
    exit-error c.from_residual.ensures.1 ∙ sym (text-is c.args.s.now c.args.at c.args.order _ (sym c.string_at.ensures ∙ c.in_err-string_at.was))

pub returns : goal.returns
returns c = sym (text-is c.args.s.now c.args.at c.args.order _ (sym c.string_at.ensures ∙ c.in_ok-string_at.was))
