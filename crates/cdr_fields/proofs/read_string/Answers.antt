-- The length, then its text; where one is missing, what stands for it.
use mathlib.Core.Path.{sym, ap, ◌∙◌}
use Rattle.std.specs.Prelude.{Err}
use Rattle.choices.proofs.Exits.{exit-error, error-of-none}
use Rattle.cdr_fields.proofs.FieldsRead.{string-none, string-is}
use Rattle.cdr_fields.proofs.read_string.Goals as goal

pub returns-in_err-value : goal.returns-in_err-value
returns-in_err-value c =
    let none = error-of-none c.ok_or.ensures.value c.in_err-value.was in
    exit-error c.from_residual.ensures.1 ∙ ap Err none.1 ∙ sym (string-none c.args.s.now c.args.at c.args.order (sym c.read_field.ensures ∙ none.0))

pub returns-in_err-length : goal.returns-in_err-length
returns-in_err-length c =
    exit-error c.from_residual-in_err-length.ensures.1
    ∙ sym (string-is c.args.s.now c.args.at c.args.order _ _ (sym c.read_field.ensures ∙ c.in_ok-value.ensures.ok_part) _ (sym c.read_text.ensures ∙ c.in_err-length.was))

pub returns : goal.returns
returns c =
    sym (string-is c.args.s.now c.args.at c.args.order _ _ (sym c.read_field.ensures ∙ c.in_ok-value.ensures.ok_part) _ (sym c.read_text.ensures ∙ c.in_ok-length.was))
