-- The octet, then the order that it names.
use mathlib.Core.Path.{sym, ap, ◌∙◌}
use Rattle.std.specs.Prelude.{Err}
use Rattle.profile_parts.proofs.PartsWithin.{order-none, order_is}
use native.Mathlib.Omega.{arith}
use Rattle.choices.proofs.Exits.{exit-error, error-of-none}
use Rattle.cdr_text.proofs.TextEnds.{run-facts}
use Rattle.profile_parts.proofs.order_at.Goals as goal

pub returns-in_err-end : goal.returns-in_err-end
returns-in_err-end c =
    let none = error-of-none c.ok_or.ensures.value c.in_err-end.was in
    exit-error c.from_residual.ensures.1 ∙ ap Err none.1 ∙ sym (order-none c.args.s.now c.args.at (sym c.read_run.ensures ∙ none.0))

pub bounds-s-i : goal.bounds-s-i
bounds-s-i c =
    omega (arith, (run-facts c.args.s.now c.args.at.0 1 _ (sym c.read_run.ensures ∙ c.in_ok-end.ensures.ok_part)).1)

pub returns-in_err-order : goal.returns-in_err-order
returns-in_err-order c =
    let none = error-of-none c.ok_or-2.ensures.value c.in_err-order.was in
    exit-error c.from_residual-in_err-order.ensures.1 ∙ ap Err none.1
    ∙ sym (order_is c.args.s.now c.args.at _ (sym c.read_run.ensures ∙ c.in_ok-end.ensures.ok_part) _ (sym c.named.ensures ∙ none.0))

pub returns : goal.returns
returns c =
    sym (order_is c.args.s.now c.args.at _ (sym c.read_run.ensures ∙ c.in_ok-end.ensures.ok_part) _ (sym c.named.ensures ∙ c.in_ok-order.ensures.ok_part))
