-- Where an indirection leads whose offset stands at an index.
use mathlib.Core.Path.{sym, ◌∙◌}
use native.Mathlib.Omega.{arith}
use Rattle.choices.proofs.Exits.{exit-error, error-of-none}
use Rattle.type_walk.specs.Types.{indirection_at}
use Rattle.cdr_fields.proofs.FieldsRead.{field-facts}
use Rattle.cdr.specs.declared.Size.TheVariants.{Four}
use Rattle.type_walk.proofs.indirection.Goals as goal

pub returns-in_err-offset : goal.returns-in_err-offset
unfolding indirection_at
returns-in_err-offset c =
    let none = error-of-none c.ok_or.ensures.value c.in_err-offset.was in
    rw (exit-error c.from_residual.ensures.1, none.1, sym c.read_field.ensures ∙ none.0)

pub place_before-requires : goal.place_before-requires
place_before-requires c =
    let f = field-facts c.args.part.now c.args.at Four c.args.order _ _ (sym c.read_field.ensures ∙ c.in_ok-offset.ensures.ok_part) in
    (omega (arith, f.ends), omega (arith, f.fits, f.ends, c.requires))

pub returns-in_err-place : goal.returns-in_err-place
unfolding indirection_at
returns-in_err-place c =
    let none = error-of-none c.ok_or-2.ensures.value c.in_err-place.was in
    rw (exit-error c.from_residual-in_err-place.ensures.1, none.1, sym c.read_field.ensures ∙ c.in_ok-offset.ensures.ok_part, ← c.place_before.ensures, sym c.target_of.ensures ∙ none.0)

pub returns : goal.returns
unfolding indirection_at
returns c =
    rw (sym c.read_field.ensures ∙ c.in_ok-offset.ensures.ok_part, ← c.place_before.ensures, sym c.target_of.ensures ∙ c.in_ok-place.ensures.ok_part) c.target_step.ensures
