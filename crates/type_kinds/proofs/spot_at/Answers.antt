-- The place of the kind is that of an unsigned long that was read.
use mathlib.Core.Path.{sym, ◌∙◌}
use native.Mathlib.Omega.{arith}
use Rattle.cdr.specs.declared.Size.TheVariants.{Four}
use Rattle.type_kinds.proofs.FieldInside.{field-inside}
use Rattle.type_kinds.proofs.spot_at.Goals as goal

pub place_before-place-requires : goal.place_before-place-requires
place_before-place-requires c =
    let f = field-inside c.args.types.now c.args.start c.args.at Four c.args.order _ _ (sym c.field_in.ensures ∙ c.in_ok-kind.was) in
    (omega (arith, f.0), omega (arith, f.1))
