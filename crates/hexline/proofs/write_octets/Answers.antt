use mathlib.Core.Path.{◌∙◌}
use Prim.Native.Nat.{◌+◌, ◌*◌}
use native.Mathlib.Omega.{arith}
use Rattle.hexline.proofs.NextDigits.{octet-turn, octets-done}
use Rattle.hexline.proofs.OctetsOfDigits.{digit_at, value-at}
use Rattle.hexline.proofs.write_octets.Goals as goal

pub digit_value-high-requires : goal.digit_value-high-requires
digit_value-high-requires c = digit_at c.args.digits.now c.requires.0 (c.loop-k.k * 2) (omega arith)

pub digit_value-low-requires : goal.digit_value-low-requires
digit_value-low-requires c = digit_at c.args.digits.now c.requires.0 (c.loop-k.k * 2 + 1) (omega arith)

pub overflow_mul-out : goal.overflow_mul-out
overflow_mul-out c =
    let high = value-at c.args.digits.now c.requires.0 (c.loop-k.k * 2) _ (omega arith) c.digit_value-high.ensures in
    let low = value-at c.args.digits.now c.requires.0 (c.loop-k.k * 2 + 1) _ (omega arith) c.digit_value-low.ensures in
    omega (arith, high, low)

pub overflow_add-out : goal.overflow_add-out
overflow_add-out c =
    let high = value-at c.args.digits.now c.requires.0 (c.loop-k.k * 2) _ (omega arith) c.digit_value-high.ensures in
    let low = value-at c.args.digits.now c.requires.0 (c.loop-k.k * 2 + 1) _ (omega arith) c.digit_value-low.ensures in
    omega (arith, high, low)

pub loop-k-preserved : goal.loop-k-preserved
loop-k-preserved c =
    octet-turn _ c.loop-k.out c.loop-k.k _ _ (omega arith) c.digit_value-high.ensures c.digit_value-low.ensures ∙ c.loop-k.invariant

pub returns : goal.returns
returns c = octets-done _ c.loop-k.out c.loop-k.k (omega arith) ∙ c.loop-k.invariant
