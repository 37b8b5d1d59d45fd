-- The count, then its octets.
use mathlib.Core.Path.{sym, ◌∙◌}
use Rattle.cdr_fields.proofs.FieldsRead.{counted_none, counted_is}
use Rattle.cdr_fields.proofs.read_counted.Goals as goal

pub returns-in_err-value : goal.returns-in_err-value
returns-in_err-value c =
    c.from_residual.ensures ∙ sym (counted_none c.args.s.now c.args.at c.args.order (sym c.read_field.ensures ∙ c.in_err-value.was))

pub returns-in_err-read_run : goal.returns-in_err-read_run
returns-in_err-read_run c =
    c.from_residual-in_err-read_run.ensures
    ∙ sym (counted_is c.args.s.now c.args.at c.args.order _ _ (sym c.read_field.ensures ∙ c.in_ok-value.was) _ (sym c.read_run.ensures ∙ c.in_err-read_run.was))

pub returns : goal.returns
returns c =
    sym (counted_is c.args.s.now c.args.at c.args.order _ _ (sym c.read_field.ensures ∙ c.in_ok-value.was) _ (sym c.read_run.ensures ∙ c.in_ok-read_run.was))
