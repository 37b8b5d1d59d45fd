-- The test asks whether the pattern of 32 bits is a NaN's.
use lib.Ieee.{binary32}
use Rattle.value_items.proofs.BitsBack.{above-infinity, to-infinity}
use Rattle.value_items.proofs.single.Goals as goal

pub float_from_bits-result : goal.float_from_bits-result
float_from_bits-result c = to-infinity binary32 c.args.bits c.if-bits-gt2139095040.false

pub returns-then-bits-gt2139095040 : goal.returns-then-bits-gt2139095040
returns-then-bits-gt2139095040 c = above-infinity binary32 c.args.bits c.if-bits-gt2139095040.true
