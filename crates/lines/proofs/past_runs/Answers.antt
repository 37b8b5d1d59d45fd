use mathlib.Core.Path.{sym, ◌∙◌}
use native.Mathlib.Omega.{arith}
use Rattle.lines.proofs.TakenBySteps.{run-passed}
use Rattle.lines.proofs.past_runs.Goals as goal

pub loop-i-preserved : goal.loop-i-preserved
loop-i-preserved c =
    record { within = omega arith; place = run-passed c.args.block.now c.loop-i.i 64 (omega arith) (sym c.has_lf.ensures ∙ c.if-has_lf.false) ∙ c.loop-i.invariant.place }
