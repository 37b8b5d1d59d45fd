-- By the parameters.
use mathlib.Core.Path.{refl, sym, ◌∙◌}
use mathlib.Core.Logic.{⊎_elim}
use Rattle.choices.specs.Lists.{any_of}
use Rattle.type_unions.specs.Shapes.{shape_of}
use Rattle.type_steps.specs.Steps.{steps_of}
use Rattle.type_steps.proofs.TableFilled.{noted-leads, noted-no-leads, noted_one, noted-union}
use Rattle.type_steps.proofs.steps_from.Goals as goal

pub returns-in-Fault : goal.returns-in-Fault
unfolding shape_of steps_of any_of
returns-in-Fault c =
    let read = sym c.parameters_of.ensures in
    ⊎_elim
    (λ e. noted-no-leads _ _ _ _ _ (read ∙ e) (λ z. refl))
    (λ e. noted-no-leads _ _ _ _ _ (read ∙ e.1) (λ z. refl))
    c.in-Fault.is

pub returns-in-Struct : goal.returns-in-Struct
unfolding shape_of steps_of
returns-in-Struct c =
    let read = sym c.parameters_of.ensures in
    ⊎_elim
    (λ e. noted-leads _ _ _ _ _ (read ∙ e) _ c.member_steps-in-Struct.ensures)
    (λ e. noted-leads _ _ _ _ _ (read ∙ e) _ c.member_steps-in-Struct.ensures)
    c.in-Struct.is

pub returns-in-Union : goal.returns-in-Union
returns-in-Union c =
    let is = sym c.parameters_of.ensures ∙ c.in-Union.is in
    noted-union _ _ _ _ _ _ _ is _ c.place_in-place.ensures _ c.labels_for-labels.ensures _ _ c.note.ensures c.member_steps.ensures

pub returns-in-Sequence : goal.returns-in-Sequence
unfolding shape_of steps_of any_of
returns-in-Sequence c = noted-no-leads _ _ _ _ _ (sym c.parameters_of.ensures ∙ c.in-Sequence.is) (λ z. refl)

pub returns-in-Array : goal.returns-in-Array
unfolding shape_of steps_of
returns-in-Array c =
    noted_one _ _ _ _ _ (sym c.parameters_of.ensures ∙ c.in-Array.is) _ _ c.place_in.ensures refl _ c.note-in-Array.ensures

pub returns-in-Alias : goal.returns-in-Alias
unfolding shape_of steps_of
returns-in-Alias c =
    noted_one _ _ _ _ _ (sym c.parameters_of.ensures ∙ c.in-Alias.is) _ _ c.place_in-in-Alias.ensures refl _ c.note-in-Alias.ensures
