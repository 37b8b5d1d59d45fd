use mathlib.Core.Path.{◌∙◌}
use native.Mathlib.Omega.{arith}
use Rattle.hexline.proofs.NextDigits.{judge-turn, judge-done}
use Rattle.hexline.proofs.all_digits.Goals as goal

pub loop-c-preserved : goal.loop-c-preserved
loop-c-preserved c =
    judge-turn _ c.loop-c.all c.loop-c.c-index _ (omega arith) c.is_digit-all.ensures ∙ c.loop-c.invariant

pub returns : goal.returns
returns c = judge-done _ c.loop-c.all c.loop-c.c-index (omega arith) ∙ c.loop-c.invariant
