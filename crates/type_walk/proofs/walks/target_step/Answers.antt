-- The target of an indirection is judged.
use mathlib.Core.Path.{sym, ◌∙◌}
use borrow.Author.Tests.{lt-ltb}
use Rattle.choices.proofs.Exits.{exit-error, error-of-none}
use Rattle.type_walk.specs.Types.{target_step}
use Rattle.type_list.proofs.Positions.{position-facts, position-nowhere}
use Rattle.type_list.specs.Arrays.{kinds_met}
use Rattle.type_walk.proofs.SeenAfter.{seen-barred}
use Rattle.type_walk.proofs.walks.target_step.Goals as goal

pub returns-in_err-i : goal.returns-in_err-i
unfolding target_step
returns-in_err-i c =
    let none = error-of-none c.ok_or.ensures.value c.in_err-i.was in
    rw (exit-error c.from_residual.ensures.1, none.1, position-nowhere (kinds_met c.args.walk.met) c.args.place (sym c.position.ensures ∙ none.0))

pub returns-then-barred_at : goal.returns-then-barred_at
unfolding target_step
returns-then-barred_at c =
    let f = position-facts (kinds_met c.args.walk.met) c.args.place _ (sym c.position.ensures ∙ c.in_ok-i.ensures.ok_part) in
    rw (f.0, lt-ltb _ _ f.1, seen-barred c.args.walk _ f.1 ∙ sym c.barred_at.ensures ∙ c.if-barred_at.true)

pub returns : goal.returns
unfolding target_step
returns c =
    let f = position-facts (kinds_met c.args.walk.met) c.args.place _ (sym c.position.ensures ∙ c.in_ok-i.ensures.ok_part) in
    rw (f.0, lt-ltb _ _ f.1, seen-barred c.args.walk _ f.1 ∙ sym c.barred_at.ensures ∙ c.if-barred_at.false)
