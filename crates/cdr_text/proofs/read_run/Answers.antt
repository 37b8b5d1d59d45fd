-- Each test leads to its answer.
use mathlib.Core.Path.{sym, ap, ◌∙◌}
use native.Mathlib.Omega.{arith}
use Rattle.std.specs.Prelude.{Some}
use Rattle.cdr_text.proofs.TextEnds.{run_past, run-to}
use Rattle.cdr_text.proofs.read_run.Goals as goal

pub returns-in_err-end : goal.returns-in_err-end
returns-in_err-end c =
    let beyond = c.in_err-end.ensures in
    c.from_residual.ensures ∙ sym (run_past c.args.s.now c.args.at c.args.count (omega (arith, beyond)))

pub returns-then-end-s : goal.returns-then-end-s
returns-then-end-s c =
    let e = c.in_ok-end.ensures.1 in
    ap Some e ∙ sym (run-to c.args.s.now c.args.at c.args.count (omega (arith, e)))

pub returns-else-end-s : goal.returns-else-end-s
returns-else-end-s c =
    let e = c.in_ok-end.ensures.1 in
    sym (run_past c.args.s.now c.args.at c.args.count (omega (arith, e)))
