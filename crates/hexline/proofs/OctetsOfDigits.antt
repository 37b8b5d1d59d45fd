-- A line of digits has half as many octets, each below 256; octets have twice as many digits, which decode to them.
use mathlib.Core.Path.{◌≡◌, refl, ap}
use mathlib.Core.Bool.{true, ◌&&◌}
use mathlib.Core.List.{List, [], ◌∷◌}
use Prim.Native.Nat.{ℕ, zero, suc, ◌+◌, ◌*◌, ◌/◌, ◌%◌, ◌<◌}
use native.Mathlib.Omega.{arith}
use lib.Dec.{lit<}
use lib.ListN.{length, get_or}
use Rattle.choices.proofs.Choices.{and-true}
use Rattle.hexline.specs.Digit.{is_digit, digit_value}
use Rattle.hexline.specs.Decoding.{all_digits, octet_of, line_octets}
use Rattle.hexline.specs.Encoding.{octet_digits}
use Rattle.hexline.proofs.DigitValues.{value-below, upper-digit, upper-value}

-- a line has half as many octets as characters
pub octets-length : (line : List ℕ) → length (line_octets line) ≡ length line / 2
unfolding line_octets
octets-length [] = refl
octets-length (c ∷ []) = refl
octets-length (c ∷ d ∷ cs) = let e = octets-length cs in omega arith

-- each character of a line of digits is a digit
pub digit_at : (line : List ℕ) → all_digits line ≡ true → (k : ℕ) → k < length line → is_digit (get_or line k 0) ≡ true
unfolding all_digits
digit_at [] h k l = absurd (omega arith)
digit_at (c ∷ cs) h zero l = (and-true (is_digit c) (all_digits cs) h).0
digit_at (c ∷ cs) h (suc k) l = digit_at cs (and-true (is_digit c) (all_digits cs) h).1 k (omega arith)

-- and its value is below 16
pub value-at : (line : List ℕ) → all_digits line ≡ true → (k v : ℕ) → k < length line → v ≡ digit_value (get_or line k 0) → v < 16
value-at line h k v l e = rw e (value-below (get_or line k 0) (digit_at line h k l))

-- two digits make a number below 256
pub octet-below : (c d : ℕ) → is_digit c ≡ true → is_digit d ≡ true → octet_of c d < 256
unfolding octet_of
octet-below c d h k = let a = value-below c h in let b = value-below d k in omega arith

-- every octet of a line of digits is below 256
pub octets-below : (line : List ℕ) → all_digits line ≡ true → (k : ℕ) → get_or (line_octets line) k 0 < 256
unfolding all_digits line_octets
octets-below [] h k = lit< tt
octets-below (c ∷ []) h k = lit< tt
octets-below (c ∷ d ∷ cs) h zero =
    let b = and-true (is_digit c) (is_digit d && all_digits cs) h in
    octet-below c d b.0 (and-true (is_digit d) (all_digits cs) b.1).0
octets-below (c ∷ d ∷ cs) h (suc k) =
    let b = and-true (is_digit c) (is_digit d && all_digits cs) h in
    octets-below cs (and-true (is_digit d) (all_digits cs) b.1).1 k

-- octets have twice as many digits
pub digits-length : (xs : List ℕ) → length (octet_digits xs) ≡ length xs * 2
unfolding octet_digits
digits-length [] = refl
digits-length (x ∷ xs) = let e = digits-length xs in omega arith

-- what encoding writes is digits
pub digits-all : (xs : List ℕ) → ((k : ℕ) → get_or xs k 0 < 256) → all_digits (octet_digits xs) ≡ true
unfolding all_digits octet_digits
digits-all [] h = refl
digits-all (x ∷ xs) h =
    let l = h 0 in
    simp (upper-digit (x / 16) (omega arith), upper-digit (x % 16) (omega arith)) (digits-all xs (λ k. h (suc k)))

-- what encoding writes decodes to the octets
pub digits-octets : (xs : List ℕ) → ((k : ℕ) → get_or xs k 0 < 256) → line_octets (octet_digits xs) ≡ xs
unfolding line_octets octet_of octet_digits
digits-octets [] h = refl
digits-octets (x ∷ xs) h =
    let l = h 0 in
    let e : x / 16 * 16 + x % 16 ≡ x = omega arith in
    simp (upper-value (x / 16) (omega arith), upper-value (x % 16) (omega arith), e)
    (ap (λ (r : List ℕ). x ∷ r) (digits-octets xs (λ k. h (suc k))))
