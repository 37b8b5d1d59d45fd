-- The encapsulation that follows a kind of a layout.
use mathlib.Core.Path.{sym, ◌∙◌}
use native.Mathlib.Omega.{arith}
use Rattle.type_kinds.proofs.FieldInside.{field-inside}
use Rattle.cdr.specs.declared.Size.TheVariants.{Four}
use Rattle.type_parameters.proofs.composite_after.Goals as goal

pub overflow_add-start : goal.overflow_add-start
overflow_add-start c =
    omega (arith, (field-inside c.args.types.now c.args.start c.args.at Four c.args.order _ _ (sym c.field_in.ensures ∙ c.in_ok-from.was)).1)
