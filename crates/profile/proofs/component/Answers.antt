-- The whole body first, then the component: the number is below the count, or it is 69.
use mathlib.Core.Path.{sym, ◌∙◌}
use Rattle.choices.proofs.Exits.{exit-error}
use Rattle.profile.proofs.StageAnswers.{component-is, component-beyond, component-there}
use Rattle.profile.proofs.component.Goals as goal

pub returns-in_err-profile : goal.returns-in_err-profile
returns-in_err-profile c =
    exit-error c.from_residual.ensures.1 ∙ sym (component-is c.args.s.now c.args.number _ (sym c.read.ensures ∙ c.in_err-profile.was))

pub returns-then-profile-number : goal.returns-then-profile-number
returns-then-profile-number c =
    sym (component-is c.args.s.now c.args.number _ (sym c.read.ensures ∙ c.in_ok-profile.was)
    ∙ component-beyond c.args.s.now c.args.number c.in_ok-profile.profile c.if-profile-number.true)

pub returns-in_err-tag : goal.returns-in_err-tag
returns-in_err-tag c =
    let there = component-there c.args.s.now c.args.number c.in_ok-profile.profile c.if-profile-number.false _ (sym c.component_from.ensures ∙ c.in_err-tag.was) in
    exit-error c.from_residual-in_err-tag.ensures.1
    ∙ sym (component-is c.args.s.now c.args.number _ (sym c.read.ensures ∙ c.in_ok-profile.was) ∙ there)

pub returns : goal.returns
returns c =
    let there = component-there c.args.s.now c.args.number c.in_ok-profile.profile c.if-profile-number.false _ (sym c.component_from.ensures ∙ c.in_ok-tag.was) in
    sym (component-is c.args.s.now c.args.number _ (sym c.read.ensures ∙ c.in_ok-profile.was) ∙ there)
