-- The position that was found.
use mathlib.Core.Path.{sym, ◌∙◌}
use Rattle.type_steps.proofs.StepNoted.{noted-nowhere, noted-at}
use Rattle.type_list.proofs.KindsMet.{kinds-few}
use Rattle.type_steps.proofs.note.Goals as goal

pub returns-in-Some : goal.returns-in-Some
returns-in-Some c =
    let found = sym c.position.ensures ∙ c.in-Some.is in
    noted-at _ _ _ _ _ found (kinds-few c.args.met) c.requires _ c.add_step.ensures

pub returns-in_default : goal.returns-in_default
returns-in_default c = noted-nowhere _ _ _ _ (sym c.position.ensures ∙ c.in_default.is)
