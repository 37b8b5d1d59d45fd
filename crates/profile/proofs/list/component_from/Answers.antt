-- The index behind the others, then the component that stands there, by the reader.
use mathlib.Core.Path.{sym, ap, ◌∙◌}
use Rattle.std.specs.Prelude.{Err}
use Rattle.choices.proofs.Exits.{exit-error, error-of-none}
use Rattle.profile.proofs.StageAnswers.{component-behind, component-missing}
use Rattle.profile.proofs.list.component_from.Goals as goal

pub returns-in_err-at : goal.returns-in_err-at
returns-in_err-at c =
    let none = error-of-none c.ok_or.ensures.value c.in_err-at.was in
    exit-error c.from_residual.ensures.1 ∙ ap Err none.1
    ∙ sym (component-missing c.args.s.now c.args.order c.args.first c.args.number (sym c.skip_tagged.ensures ∙ none.0))

pub returns : goal.returns
returns c =
    let at = sym c.skip_tagged.ensures ∙ c.in_ok-at.ensures.ok_part in
    c.component_in.ensures ∙ sym (component-behind c.args.s.now c.args.order c.args.first c.args.number _ at)
