-- The digits found so far, behind those of what is left of the number, are the number's.
use mathlib.Core.Path.{◌≡◌}
use mathlib.Core.List.{◌++◌}
use Prim.Native.Nat.{◌^◌, ◌≤◌, ◌<◌}
use lib.ListN.{length, drop}
use Rattle.decimals.specs.Decimal.{decimal_within, decimal}
use Rattle.decimals.proofs.last_digits.Given as goal

abbrev pub invariant-loop-rest : goal.invariant-loop-rest
invariant-loop-rest l =
    (0 < l.at) × (l.at ≤ 20) × (l.rest < 10 ^ l.at) × (length l.digits ≡ length l.initial.digits)
    × (decimal_within l.at l.rest ++ drop l.at l.digits ≡ decimal l.x ++ drop 20 l.initial.digits)

abbrev pub decreases-loop-rest : goal.decreases-loop-rest
decreases-loop-rest l = l.rest
