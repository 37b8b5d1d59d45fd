-- The octets of the part, or none.
use Rattle.cdr_fields.specs.declared.Extent.{Extent}
use Rattle.cdr_fields.specs.Extents.{PartOf}
use Rattle.cdr_fields.proofs.ExtentsTaken.{none_of}
use Rattle.profile_octets.proofs.ExtentsTold.{component-octets-are}
use mathlib.Core.Path.{refl, sym, subst, ◌∙◌}
use Rattle.profile_octets.proofs.component_octets.Goals as goal

pub returns-in-Ok : goal.returns-in-Ok
returns-in-Ok c =
    let part = component-octets-are c.args.s.now c.args.number _ (sym c.component.ensures ∙ c.in-Ok.is) in
    subst (λ (x : Extent). PartOf c.args.s x c.octets_in.result) (sym part) c.octets_in.ensures

pub returns-in-Err : goal.returns-in-Err
returns-in-Err c =
    let part = component-octets-are c.args.s.now c.args.number _ (sym c.component.ensures ∙ c.in-Err.is) in
    none_of c.args.s _ part _ refl refl refl
