-- The bits of a row.
use mathlib.Core.Path.{◌≡◌, refl, sym, ◌∙◌, ap}
use mathlib.Core.Bool.{false, ◌||◌}
use Prim.Native.Nat.{ℕ, zero, suc, ◌+◌, ◌/◌, ◌%◌, ◌^◌, ◌<◌}
use native.Mathlib.Omega.{arith}
use native.Mathlib.Nat.{mod-lt, div-one, pow-suc, mul-div_cancel, mul-mod_left, zero-lt-suc}
use lib.Bits.{bit_and, bit_or, and_mask, or_shr, or_mod}
use lib.Dec.{eqb, eqb-zero-suc, eqb-suc-zero, eqb-suc-suc}
use lib.Pow.{shr-shr}
use Rattle.type_loops.specs.Loops.{bit_at}

pub bit-zero : (j : ℕ) → bit_at 0 j ≡ false
unfolding bit_at
bit-zero zero = refl
bit-zero (suc j) = bit-zero j

digit_or : (a b : ℕ) → a < 2 → b < 2 → eqb (bit_or a b) 1 ≡ (eqb a 1 || eqb b 1)
digit_or zero b h l = refl
digit_or (suc zero) zero h l = refl
digit_or (suc zero) (suc zero) h l = refl
digit_or (suc zero) (suc (suc b)) h l = absurd (omega arith)
digit_or (suc (suc a)) b h l = absurd (omega arith)

pub bit-or : (x y j : ℕ) → bit_at (bit_or x y) j ≡ (bit_at x j || bit_at y j)
unfolding bit_at
bit-or x y zero = rw (or_mod x y 1) (digit_or (x % 2) (y % 2) (mod-lt x (zero-lt-suc 1)) (mod-lt y (zero-lt-suc 1)))
bit-or x y (suc j) = rw (or_shr x y 1) (bit-or (x / 2) (y / 2) j)

pub bit-power : (j z : ℕ) → bit_at (2 ^ j) z ≡ eqb z j
unfolding bit_at
bit-power zero zero = refl
bit-power zero (suc z) = bit-zero z ∙ sym (eqb-suc-zero z)
bit-power (suc j) zero = rw (pow-suc 2 j, mul-mod_left (2 ^ j) 2) (sym (eqb-zero-suc j))
bit-power (suc j) (suc z) = rw (pow-suc 2 j, mul-div_cancel (2 ^ j) (zero-lt-suc 1)) (bit-power j z ∙ sym (eqb-suc-suc z j))

bit-digit : (x j : ℕ) → eqb (x / 2 ^ j % 2) 1 ≡ bit_at x j
unfolding bit_at
bit-digit x zero = rw (div-one x)
bit-digit x (suc j) =
    let e : suc j ≡ 1 + j = omega arith in
    ap (λ (m : ℕ). eqb (x / 2 ^ m % 2) 1) e ∙ rw (← shr-shr x 1 j) (bit-digit (x / 2) j)

pub bit_shifted : (x j : ℕ) → eqb (bit_and (x / 2 ^ j) 1) 1 ≡ bit_at x j
bit_shifted x j = rw (and_mask (x / 2 ^ j) 1) (bit-digit x j)
