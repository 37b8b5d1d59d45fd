use mathlib.Core.Path.{sym, ◌∙◌}
use native.Mathlib.Omega.{arith}
use Rattle.decimals.proofs.DecimalBack.{read-on, read_off, read_done}
use Rattle.decimals.proofs.read.digits.Goals as goal

pub returns-in_err-x : goal.returns-in_err-x
returns-in_err-x c =
    c.from_residual.ensures
    ∙ read_off c.args.word.now c.loop-c.x c.loop-c.c-index (omega arith) (sym c.in_err-x.was ∙ c.onward.ensures)
    ∙ c.loop-c.invariant.1

pub loop-c-preserved : goal.loop-c-preserved
loop-c-preserved c =
    let r = read-on c.args.word.now c.loop-c.x c.loop-c.c-index (omega arith) _ (sym c.in_ok-x.was ∙ c.onward.ensures) in
    (r.0, r.1 ∙ c.loop-c.invariant.1)

pub returns : goal.returns
returns c = read_done c.args.word.now c.loop-c.x c.loop-c.c-index (omega arith) c.loop-c.invariant.0 ∙ c.loop-c.invariant.1
