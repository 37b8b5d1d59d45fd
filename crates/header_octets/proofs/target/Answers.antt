-- The octets of the part, or none.
use mathlib.Core.Path.{refl, sym, ap, subst, ◌∙◌}
use Rattle.std.specs.Prelude.{Ok}
use Rattle.cdr_fields.specs.declared.Extent.{Extent}
use Rattle.cdr_fields.specs.Extents.{PartOf}
use Rattle.cdr_fields.proofs.ExtentsTaken.{none_of}
use Rattle.header_octets.proofs.ExtentsSaid.{target_is}
use Rattle.header_octets.proofs.target.Goals as goal

pub returns-in-Ok-Called : goal.returns-in-Ok-Called
returns-in-Ok-Called c =
    let part = c.target_part.ensures ∙ sym (target_is c.args.s.now _ (sym c.read.ensures ∙ c.in-Ok-Called.is ∙ ap Ok c.in-Ok-Called.field-0-is)) in
    subst (λ (x : Extent). PartOf c.args.s x c.octets_in.result) part c.octets_in.ensures

pub returns-in-Ok-Answered : goal.returns-in-Ok-Answered
returns-in-Ok-Answered c =
    none_of c.args.s _ (target_is c.args.s.now _ (sym c.read.ensures ∙ c.in-Ok-Answered.is ∙ ap Ok c.in-Ok-Answered.field-0-is)) _ refl refl refl

pub returns-in-Err : goal.returns-in-Err
returns-in-Err c =
    none_of c.args.s _ (target_is c.args.s.now _ (sym c.read.ensures ∙ c.in-Err.is)) _ refl refl refl
