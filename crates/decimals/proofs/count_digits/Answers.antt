-- The power of ten below the number tells its digits; 0 has one.
use mathlib.Core.Path.{sym}
use native.Mathlib.Omega.{arith}
use Rattle.decimals.proofs.DecimalIs.{one-digit, digits-counted}
use Rattle.decimals.proofs.count_digits.Goals as goal

pub returns-in-Some : goal.returns-in-Some
returns-in-Some c =
    let h = c.in-Some.ensures in sym (digits-counted 20 c.in-Some.power c.args.x h.bound h.power_le h.next_power_gt)

pub returns-in-None : goal.returns-in-None
returns-in-None c = rw (c.in-None.ensures.none, one-digit 19 0 (omega arith))
