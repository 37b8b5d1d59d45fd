use mathlib.Core.Path.{◌∙◌}
use native.Mathlib.Omega.{arith}
use Rattle.hexline.proofs.NextDigits.{digits-turn, digits-done}
use Rattle.hexline.proofs.write_digits.Goals as goal

pub loop-k-preserved : goal.loop-k-preserved
loop-k-preserved c =
    digits-turn _ c.loop-k.out c.loop-k.k _ _ (omega arith) c.upper_digit.ensures c.upper_digit-in-loop-k.ensures ∙ c.loop-k.invariant

pub returns : goal.returns
returns c = digits-done _ c.loop-k.out c.loop-k.k (omega arith) ∙ c.loop-k.invariant
