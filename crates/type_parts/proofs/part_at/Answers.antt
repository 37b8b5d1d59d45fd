-- A number that was read ends in the octets.
use mathlib.Core.Path.{sym, ◌∙◌}
use native.Mathlib.Omega.{arith}
use Rattle.cdr.specs.declared.Size.TheVariants.{Four}
use Rattle.cdr_fields.proofs.FieldsRead.{field-facts}
use Rattle.type_parts.proofs.part_at.Goals as goal

pub overflow_sub-part : goal.overflow_sub-part
overflow_sub-part c =
    omega (arith, (field-facts c.args.part.now c.args.at Four c.args.order _ _ (sym c.read_field.ensures ∙ c.in_ok-length.ensures.ok_part)).fits)
