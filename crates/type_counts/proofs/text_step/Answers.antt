-- A text.
use mathlib.Core.Path.{sym, ◌∙◌}
use native.Mathlib.Omega.{arith}
use Rattle.cdr_fields.proofs.FieldsWithin.{string-facts}
use Rattle.type_counts.proofs.text_step.Goals as goal

pub overflow_add-result : goal.overflow_add-result
overflow_add-result c =
    omega (arith, (string-facts c.args.part.now c.args.at c.args.order _ _ (sym c.read_string.ensures ∙ c.in_ok-from.was)).1)

pub overflow_add-result-2 : goal.overflow_add-result-2
overflow_add-result-2 c =
    omega (arith, (string-facts c.args.part.now c.args.at c.args.order _ _ (sym c.read_string.ensures ∙ c.in_ok-from.was)).1)
