-- Each test in turn.
use mathlib.Core.Path.{sym, ◌∙◌}
use native.Mathlib.Omega.{arith}
use Rattle.decimals.proofs.DecimalBack.{numeral-not, numeral-over, numeral-sum}
use Rattle.decimals.proofs.read.onward.Goals as goal

pub returns-then-not-is_ascii_digit : goal.returns-then-not-is_ascii_digit
returns-then-not-is_ascii_digit c = numeral-not c.args.x c.args.c (sym c.if-not-is_ascii_digit.ensures.value)

pub returns-in_err-checked_mul : goal.returns-in_err-checked_mul
returns-in_err-checked_mul c =
    let d = c.if-not-is_ascii_digit.ensures.cases in
    let over = c.in_err-checked_mul.ensures in
    c.from_residual.ensures ∙ numeral-over c.args.x c.args.c d.0 d.1 (omega (arith, over))

pub returns : goal.returns
returns c =
    let d = c.if-not-is_ascii_digit.ensures.cases in
    numeral-sum c.args.x c.args.c d.0 d.1 _ _ c.checked_add.result c.in_ok-checked_mul.ensures.1 c.from-d.ensures c.checked_add.ensures
