-- The octet, whether there is such a major version, and only then the minor.
use mathlib.Core.Path.{sym, ap, ◌∙◌}
use Rattle.std.specs.Prelude.{Err}
use Rattle.profile_parts.proofs.PartsWithin.{version-none, version-is}
use native.Mathlib.Omega.{arith}
use Rattle.choices.proofs.Exits.{exit-error, error-of-none}
use Rattle.cdr_text.proofs.TextEnds.{run-facts}
use Rattle.profile_parts.proofs.version_at.Goals as goal

pub returns-in_err-ok_or : goal.returns-in_err-ok_or
returns-in_err-ok_or c =
    let none = error-of-none c.ok_or.ensures.value c.in_err-ok_or.was in
    exit-error c.from_residual.ensures.1 ∙ ap Err none.1 ∙ sym (version-none c.args.s.now c.args.at (sym c.read_run.ensures ∙ none.0))

pub bounds-s-first : goal.bounds-s-first
bounds-s-first c =
    omega (arith, (run-facts c.args.s.now c.args.at.0 _ _ (sym c.read_run.ensures ∙ c.in_ok-ok_or.ensures.ok_part)).1)

pub overflow_add-first : goal.overflow_add-first
overflow_add-first c =
    let f = (run-facts c.args.s.now c.args.at.0 _ _ (sym c.read_run.ensures ∙ c.in_ok-ok_or.ensures.ok_part)).1 in omega (arith, f)

pub returns-then-major_exists : goal.returns-then-major_exists
returns-then-major_exists c =
    let there = sym c.read_run.ensures ∙ c.in_ok-ok_or.ensures.ok_part in
    c.minor_at.ensures ∙ sym (version-is c.args.s.now c.args.at _ there _ (sym c.major_exists.ensures ∙ c.if-major_exists.true))

pub returns-else-major_exists : goal.returns-else-major_exists
returns-else-major_exists c =
    let there = sym c.read_run.ensures ∙ c.in_ok-ok_or.ensures.ok_part in
    sym (version-is c.args.s.now c.args.at _ there _ (sym c.major_exists.ensures ∙ c.if-major_exists.false))
