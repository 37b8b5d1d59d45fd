-- The test asks whether the pattern of 64 bits is a NaN's.
use lib.Ieee.{binary64}
use Rattle.value_items.proofs.BitsBack.{above-infinity, to-infinity}
use Rattle.value_items.proofs.double.Goals as goal

pub float_from_bits-result : goal.float_from_bits-result
float_from_bits-result c = to-infinity binary64 c.args.bits c.if-bits-gt9218868437227405312.false

pub returns-then-bits-gt9218868437227405312 : goal.returns-then-bits-gt9218868437227405312
returns-then-bits-gt9218868437227405312 c = above-infinity binary64 c.args.bits c.if-bits-gt9218868437227405312.true
