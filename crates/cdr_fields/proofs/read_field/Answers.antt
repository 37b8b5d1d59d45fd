-- The number at an encapsulation's own index, and the index after it.
use mathlib.Core.Path.{sym, ◌∙◌}
use native.Mathlib.Omega.{arith}
use Rattle.cdr_fields.proofs.FieldsRead.{field_is, field-none}
use Rattle.cdr_fields.specs.Encapsulation.{start}
use Rattle.cdr.proofs.GapsBounded.{octets-small, read-facts}
use Rattle.cdr_fields.proofs.read_field.Goals as goal

pub returns-in_err-from : goal.returns-in_err-from
returns-in_err-from c =
    c.from_residual.ensures
    ∙ sym (field-none c.args.s.now c.args.at c.args.size c.args.order (sym c.read_number.ensures ∙ c.in_err-from.was))

pub overflow_add-result : goal.overflow_add-result
overflow_add-result c =
    let f = read-facts c.args.s.now start c.args.at.0 c.args.size c.args.order _ _ (sym c.read_number.ensures ∙ c.in_ok-from.was) in
    omega (arith, octets-small c.args.size, f.fits)

pub returns : goal.returns
returns c =
    rw c.octets.ensures (sym (field_is c.args.s.now c.args.at c.args.size c.args.order _ _ (sym c.read_number.ensures ∙ c.in_ok-from.was)))
