-- By the step of the line: each does what the step's function is told.
use Rattle.std.specs.Prelude.{Ok}
use mathlib.Core.Path.{sym, ap, ◌∙◌}
use Rattle.join_steps.proofs.StepNeeds.{needs-of}
use Rattle.joining.proofs.StepsTake.{by-step}
use Rattle.joining.proofs.join.Goals as goal

pub first-requires : goal.first-requires
first-requires c =
    needs-of c.args.octets.now c.args.before c.args.places.now _ (sym c.step_of.ensures ∙ c.in-Ok-Opens.is ∙ ap Ok c.in-Ok-Opens.field-0-is)

pub extend-requires : goal.extend-requires
extend-requires c =
    needs-of c.args.octets.now c.args.before c.args.places.now _ (sym c.step_of.ensures ∙ c.in-Ok-Extends.is ∙ ap Ok c.in-Ok-Extends.field-0-is)

pub complete-requires : goal.complete-requires
complete-requires c =
    needs-of c.args.octets.now c.args.before c.args.places.now _ (sym c.step_of.ensures ∙ c.in-Ok-Completes.is ∙ ap Ok c.in-Ok-Completes.field-0-is)

pub cancel-requires : goal.cancel-requires
cancel-requires c =
    needs-of c.args.octets.now c.args.before c.args.places.now _ (sym c.step_of.ensures ∙ c.in-Ok-Frees.is ∙ ap Ok c.in-Ok-Frees.field-0-is)

pub returns-in-Ok-Frees : goal.returns-in-Ok-Frees
returns-in-Ok-Frees c =
    let step = sym c.step_of.ensures ∙ c.in-Ok-Frees.is ∙ ap Ok c.in-Ok-Frees.field-0-is in
    by-step c.args.octets.now c.args.before c.args.places.now c.args.out.now _ _ _ c.args.places.now _ step (c.cancel.ensures c.args.places.now)
