-- Each way by the kind that led there.
use native.Mathlib.Omega.{arith}
use mathlib.Core.Path.{sym, ap, ◌∙◌}
use mir.Syntax.{w64}
use mir.ValLaws.{to_z-of_z}
use Rattle.value_items.specs.declared.ItemValue.TheVariants.{Signed, Double}
use Rattle.value_items.proofs.BitsBack.{machine-signed, item-signed, item-single, item-double, item-other}
use Rattle.value_items.proofs.item_of.Goals as goal

pub returns-then-is_signed : goal.returns-then-is_signed
returns-then-is_signed c =
    ap Signed
    (to_z-of_z w64 c.cast_signed.result (record { sfits = c.cast_signed.type_inv }) ∙ c.cast_signed.ensures ∙ machine-signed c.args.content)
    ∙ sym (item-signed c.args.kind c.args.content (sym c.is_signed.ensures ∙ c.if-is_signed.true))

pub returns-in-6 : goal.returns-in-6
returns-in-6 c =
    c.single_of.ensures ∙ sym (item-single c.args.kind c.args.content c.in-6.is)

pub returns-in-7 : goal.returns-in-7
returns-in-7 c =
    ap (Double c.args.content) c.double.ensures ∙ sym (item-double c.args.kind c.args.content c.in-7.is)

pub returns-in_default : goal.returns-in_default
returns-in_default c =
    sym
    (item-other c.args.kind c.args.content (sym c.is_signed.ensures ∙ c.if-is_signed.false)
    (λ e. omega arith) (λ e. omega arith))
