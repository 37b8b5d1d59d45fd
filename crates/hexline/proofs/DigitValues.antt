-- Which characters are digits, their values, and that an upper-case digit has the value that it was made from.
use mathlib.Core.Path.{◌≡◌, refl, sym, ◌∙◌}
use mathlib.Core.Bool.{Bool, true, false, true≢false}
use Prim.Native.Nat.{ℕ, ◌+◌, ◌-◌, ◌%◌, ◌<◌, ◌≤◌}
use native.Mathlib.Omega.{arith}
use lib.Dec.{leb, ltb}
use borrow.Author.Tests.{leb-true, leb-false, ltb-true, ltb-false, lt-leb, le-leb}
use Rattle.choices.proofs.Choices.{clash}
use Rattle.hexline.specs.Digit.{is_digit, digit_value, upper_digit}

-- between and behind the ranges of digits there is none
pub before-numerals : (c : ℕ) → c < 48 → is_digit c ≡ false
unfolding is_digit
before-numerals c h = simp (lt-leb 48 c h, lt-leb 65 c (omega arith), lt-leb 97 c (omega arith))

pub before-upper : (c : ℕ) → 57 < c → c < 65 → is_digit c ≡ false
unfolding is_digit
before-upper c l h = simp (le-leb 48 c (omega arith), lt-leb c 57 l, lt-leb 65 c h, lt-leb 97 c (omega arith))

pub before-lower : (c : ℕ) → 70 < c → c < 97 → is_digit c ≡ false
unfolding is_digit
before-lower c l h =
    simp (le-leb 48 c (omega arith), lt-leb c 57 (omega arith), le-leb 65 c (omega arith), lt-leb c 70 l, lt-leb 97 c h)

above : (c : ℕ) → 102 < c → is_digit c ≡ false
unfolding is_digit
above c h =
    simp
    (le-leb 48 c (omega arith), lt-leb c 57 (omega arith), le-leb 65 c (omega arith), lt-leb c 70 (omega arith), le-leb 97 c (omega arith), lt-leb c 102 h)

below_by : (c : ℕ) (a b d : Bool) → leb c 57 ≡ a → leb c 70 ≡ b → leb c 102 ≡ d → is_digit c ≡ true → digit_value c < 16
unfolding digit_value
below_by c true b d e f g h = simp e (omega (arith, leb-true))
below_by c false true d e f g h = simp (e, f) (omega (arith, leb-true))
below_by c false false true e f g h = simp (e, f) (omega (arith, leb-true))
below_by c false false false e f g h =
    let n = above c (leb-false c 102 g) in
    clash cc

pub value-below : (c : ℕ) → is_digit c ≡ true → digit_value c < 16
value-below c h = below_by c _ _ _ refl refl refl h

-- a digit up to 9 is at least 0
pub numeral-least : (c : ℕ) → is_digit c ≡ true → 48 ≤ c
numeral-least c d = by-below (ltb c 48) refl
  where
    by-below : (t : Bool) → t ≡ ltb c 48 → 48 ≤ c
    by-below true e = absurd (true≢false (sym d ∙ before-numerals c (ltb-true c 48 (sym e))))
    by-below false e = ltb-false c 48 (sym e)

pub numeral-value : (c : ℕ) → c ≤ 57 → c - 48 ≡ digit_value c
unfolding digit_value
numeral-value c h = simp (le-leb c 57 h)

-- a letter's last four bits count from 1
pub letter-value : (c : ℕ) → is_digit c ≡ true → 57 < c → c % 16 + 9 ≡ digit_value c
unfolding digit_value
letter-value c d h = by-case (leb c 70) (ltb c 65) (ltb c 97) (leb c 102) refl refl refl refl
  where
    by-case : (a b e f : Bool) → a ≡ leb c 70 → b ≡ ltb c 65 → e ≡ ltb c 97 → f ≡ leb c 102 → c % 16 + 9 ≡ digit_value c
    by-case true true e f p q r s = absurd (true≢false (sym d ∙ before-upper c h (ltb-true c 65 (sym q))))
    by-case true false e f p q r s =
        let l = ltb-false c 65 (sym q) in
        let m = leb-true c 70 (sym p) in
        simp (lt-leb c 57 h, sym p) (omega arith)
    by-case false b true f p q r s = absurd (true≢false (sym d ∙ before-lower c (leb-false c 70 (sym p)) (ltb-true c 97 (sym r))))
    by-case false b false true p q r s =
        let l = ltb-false c 97 (sym r) in
        let m = leb-true c 102 (sym s) in
        simp (lt-leb c 57 h, sym p) (omega arith)
    by-case false b false false p q r s = absurd (true≢false (sym d ∙ above c (leb-false c 102 (sym s))))

upper_by : (v : ℕ) (a : Bool) → ltb v 10 ≡ a → v < 16 → (is_digit (upper_digit v) ≡ true) × (digit_value (upper_digit v) ≡ v)
unfolding is_digit digit_value upper_digit
upper_by v true e h =
    let l = ltb-true v 10 e in (
      simp (e, le-leb 48 (48 + v) (omega arith), le-leb (48 + v) 57 (omega arith)),
      simp (e, le-leb (48 + v) 57 (omega arith)) (omega arith),
    )
upper_by v false e h =
    let l = ltb-false v 10 e in (
      simp
          (e, le-leb 48 (65 + (v - 10)) (omega arith), lt-leb (65 + (v - 10)) 57 (omega arith), le-leb 65 (65 + (v - 10)) (omega arith), le-leb (65 + (v - 10)) 70 (omega arith)),
      simp (e, lt-leb (65 + (v - 10)) 57 (omega arith), le-leb (65 + (v - 10)) 70 (omega arith)) (omega arith),
    )

pub upper-digit : (v : ℕ) → v < 16 → is_digit (upper_digit v) ≡ true
upper-digit v h = (upper_by v _ refl h).0

pub upper-value : (v : ℕ) → v < 16 → digit_value (upper_digit v) ≡ v
upper-value v h = (upper_by v _ refl h).1
