-- The place of the offset is that of an unsigned long that was read.
use mathlib.Core.Path.{sym, ◌∙◌}
use native.Mathlib.Omega.{arith}
use Rattle.cdr.specs.declared.Size.TheVariants.{Four}
use Rattle.type_kinds.proofs.FieldInside.{field-inside}
use Rattle.type_kinds.proofs.parts.aimed.Goals as goal

pub place_before-requires : goal.place_before-requires
place_before-requires c =
    let f = field-inside c.args.types.now c.args.start c.args.at Four c.args.order _ _ (sym c.field_in.ensures ∙ c.in_ok-offset.was) in
    (omega (arith, f.0), omega (arith, f.1))
