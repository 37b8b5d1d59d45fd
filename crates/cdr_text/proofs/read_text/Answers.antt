-- Each test leads to its answer; the part handed on is the text's octets.
use mathlib.Core.Path.{sym, ap, ◌∙◌}
use mathlib.Core.Bool.{true, false}
use native.Mathlib.Omega.{arith}
use Rattle.std.specs.Prelude.{Err}
use Rattle.choices.proofs.Exits.{exit-error, error-of-none}
use Rattle.cdr_text.proofs.TextEnds.{text-empty, text-over, text-short, text-zeros, text-part, run-facts, run_short}
use Rattle.cdr_text.proofs.read_text.Goals as goal

pub returns-then-length-eq0 : goal.returns-then-length-eq0
returns-then-length-eq0 c = sym (text-empty c.args.s.now c.args.at c.args.length c.args.bound c.if-length-eq0.true)

pub returns-then-over_bound : goal.returns-then-over_bound
returns-then-over_bound c =
    sym (text-over c.args.s.now c.args.at c.args.length c.args.bound c.if-length-eq0.false (sym c.over_bound.ensures ∙ c.if-over_bound.true))

pub returns-in_err-end : goal.returns-in_err-end
returns-in_err-end c =
    let none = error-of-none c.ok_or.ensures.value c.in_err-end.was in
    exit-error c.from_residual.ensures.1 ∙ ap Err none.1
    ∙ sym (text-short c.args.s.now c.args.at c.args.length c.args.bound c.if-length-eq0.false (sym c.over_bound.ensures ∙ c.if-over_bound.false)
    (run_short c.args.s.now c.args.at c.args.length (sym c.read_run.ensures ∙ none.0)))

pub slice_bounds-ends_text-count : goal.slice_bounds-ends_text-count
slice_bounds-ends_text-count c =
    let e = run-facts c.args.s.now c.args.at c.args.length _ (sym c.read_run.ensures ∙ c.in_ok-end.ensures.ok_part) in omega arith

pub slice_bounds-ends_text-start : goal.slice_bounds-ends_text-start
slice_bounds-ends_text-start c =
    let e = run-facts c.args.s.now c.args.at c.args.length _ (sym c.read_run.ensures ∙ c.in_ok-end.ensures.ok_part) in omega arith

pub slice_bounds-ends_text-end : goal.slice_bounds-ends_text-end
slice_bounds-ends_text-end c =
    let e = run-facts c.args.s.now c.args.at c.args.length _ (sym c.read_run.ensures ∙ c.in_ok-end.ensures.ok_part) in omega arith

pub returns-then-ends_text : goal.returns-then-ends_text
returns-then-ends_text c =
    let e = run-facts c.args.s.now c.args.at c.args.length _ (sym c.read_run.ensures ∙ c.in_ok-end.ensures.ok_part) in
    sym (text-zeros c.args.s.now c.args.at c.args.length c.args.bound c.if-length-eq0.false (sym c.over_bound.ensures ∙ c.if-over_bound.false)
    e.1 true (sym c.if-ends_text.true ∙ c.ends_text.ensures ∙ text-part c.args.s.now c.args.at c.args.length _ e.0))

pub returns-else-ends_text : goal.returns-else-ends_text
returns-else-ends_text c =
    let e = run-facts c.args.s.now c.args.at c.args.length _ (sym c.read_run.ensures ∙ c.in_ok-end.ensures.ok_part) in
    sym (text-zeros c.args.s.now c.args.at c.args.length c.args.bound c.if-length-eq0.false (sym c.over_bound.ensures ∙ c.if-over_bound.false)
    e.1 false (sym c.if-ends_text.false ∙ c.ends_text.ensures ∙ text-part c.args.s.now c.args.at c.args.length _ e.0))
