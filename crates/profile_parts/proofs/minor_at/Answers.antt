-- The octet, then whether there is such a minor version.
use mathlib.Core.Path.{sym, ap, ◌∙◌}
use Rattle.std.specs.Prelude.{Err}
use Rattle.profile_parts.proofs.PartsWithin.{minor-none, minor-is}
use native.Mathlib.Omega.{arith}
use Rattle.choices.proofs.Exits.{exit-error, error-of-none}
use Rattle.cdr_text.proofs.TextEnds.{run-facts}
use Rattle.profile_parts.proofs.minor_at.Goals as goal

pub returns-in_err-end : goal.returns-in_err-end
returns-in_err-end c =
    let none = error-of-none c.ok_or.ensures.value c.in_err-end.was in
    exit-error c.from_residual.ensures.1 ∙ ap Err none.1 ∙ sym (minor-none c.args.s.now c.args.major c.args.at (sym c.read_run.ensures ∙ none.0))

pub bounds-s-i : goal.bounds-s-i
bounds-s-i c =
    omega (arith, (run-facts c.args.s.now c.args.at.0 1 _ (sym c.read_run.ensures ∙ c.in_ok-end.ensures.ok_part)).1)

pub returns-then-minor_exists : goal.returns-then-minor_exists
returns-then-minor_exists c =
    let there = sym c.read_run.ensures ∙ c.in_ok-end.ensures.ok_part in
    sym (minor-is c.args.s.now c.args.major c.args.at _ there _ (sym c.minor_exists.ensures ∙ c.if-minor_exists.true))

pub returns-else-minor_exists : goal.returns-else-minor_exists
returns-else-minor_exists c =
    let there = sym c.read_run.ensures ∙ c.in_ok-end.ensures.ok_part in
    sym (minor-is c.args.s.now c.args.major c.args.at _ there _ (sym c.minor_exists.ensures ∙ c.if-minor_exists.false))
