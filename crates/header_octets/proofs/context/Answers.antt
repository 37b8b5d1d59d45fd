-- The octets of the part, or none.
use mathlib.Core.Path.{refl, sym, subst, ◌∙◌}
use Rattle.cdr_fields.specs.declared.Extent.{Extent}
use Rattle.cdr_fields.specs.Extents.{PartOf}
use Rattle.cdr_fields.proofs.ExtentsTaken.{none_of}
use Rattle.header_octets.proofs.ExtentsSaid.{context-is}
use Rattle.header_octets.proofs.context.Goals as goal

pub returns-in-Ok : goal.returns-in-Ok
returns-in-Ok c =
    let part = sym (context-is c.args.s.now c.args.number _ (sym c.context.ensures ∙ c.in-Ok.is)) in
    subst (λ (x : Extent). PartOf c.args.s x c.octets_in.result) part c.octets_in.ensures

pub returns-in-Err : goal.returns-in-Err
returns-in-Err c =
    none_of c.args.s _ (context-is c.args.s.now c.args.number _ (sym c.context.ensures
    ∙ c.in-Err.is)) _ refl refl refl
