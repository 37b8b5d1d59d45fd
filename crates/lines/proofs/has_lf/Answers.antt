use mathlib.Core.Path.{◌∙◌}
use native.Mathlib.Omega.{arith}
use Rattle.lines.proofs.TakenBySteps.{met-turn, met-done}
use Rattle.lines.proofs.has_lf.Goals as goal

pub loop-c-preserved : goal.loop-c-preserved
loop-c-preserved c = met-turn _ c.loop-c.met c.loop-c.c-index (omega arith) ∙ c.loop-c.invariant

pub returns : goal.returns
returns c = met-done _ c.loop-c.met c.loop-c.c-index (omega arith) ∙ c.loop-c.invariant
