-- The turns of each loop: the next character judged, the next octet and the next two digits written.
use mathlib.Core.Path.{◌≡◌, refl, sym, ap}
use mathlib.Core.Bool.{Bool, true, false, ◌&&◌}
use mathlib.Core.List.{List, [], ◌∷◌}
use Prim.Native.Nat.{ℕ, suc, ◌+◌, ◌*◌, ◌/◌, ◌%◌, ◌<◌, ◌≤◌}
use native.Mathlib.Numerals.{add-one}
use native.Mathlib.Omega.{arith}
use lib.ListN.{length, get_or, drop, set, length-drop, drop_of_length-le}
use lib.Seq.{sets, drop-cons}
use Rattle.hexline.specs.Digit.{is_digit, digit_value, upper_digit}
use Rattle.hexline.specs.Decoding.{all_digits, octet_of, line_octets}
use Rattle.hexline.specs.Encoding.{octet_digits}
use Rattle.hexline.proofs.OctetsOfDigits.{octets-length}

none : (xs : List ℕ) → length xs ≡ 0 → xs ≡ []
none [] e = refl
none (x ∷ xs) e = absurd (omega arith)

module _ (line : List ℕ) where
  judge-next : (k : ℕ) → k < length line → all_digits (drop k line) ≡ (is_digit (get_or line k 0) && all_digits (drop (k + 1) line))
  unfolding all_digits
  judge-next k h = rw (add-one, drop-cons line k 0)

  pub judge-turn : (all : Bool) (k : ℕ) (b : Bool) → k < length line → b ≡ is_digit (get_or line k 0)
      → (all && b && all_digits (drop (k + 1) line)) ≡ (all && all_digits (drop k line))
  judge-turn true k b h e = rw e (sym (judge-next k h))
  judge-turn false k b h e = refl

  pub judge-done : (all : Bool) (k : ℕ) → length line ≤ k → all ≡ (all && all_digits (drop k line))
  unfolding all_digits
  judge-done true k h = sym (ap all_digits (drop_of_length-le line h))
  judge-done false k h = refl

  octets-next : (k : ℕ) → k < length line / 2
      → line_octets (drop (k * 2) line) ≡ octet_of (get_or line (k * 2) 0) (get_or line (k * 2 + 1) 0) ∷ line_octets (drop ((k + 1) * 2) line)
  unfolding line_octets
  octets-next k h =
      let e : suc (suc (k * 2)) ≡ (k + 1) * 2 = omega arith in
      let l : k * 2 < length line = omega arith in
      let m : suc (k * 2) < length line = omega arith in
      rw (add-one (k * 2), ← e, drop-cons line (k * 2) 0 l, drop-cons line (suc (k * 2)) 0 m)

  octets-last : (k : ℕ) → length line / 2 ≤ k → line_octets (drop (k * 2) line) ≡ []
  octets-last k h =
      none (line_octets (drop (k * 2) line)) (omega (arith, octets-length (drop (k * 2) line), length-drop (k * 2) line))

  pub octet-turn : (out : List ℕ) (k v w : ℕ) → k < length line / 2
      → v ≡ digit_value (get_or line (k * 2) 0) → w ≡ digit_value (get_or line (k * 2 + 1) 0)
      → sets (set out k (v * 16 + w)) (k + 1) (line_octets (drop ((k + 1) * 2) line)) ≡ sets out k (line_octets (drop (k * 2) line))
  unfolding octet_of
  octet-turn out k v w h e f = rw (octets-next k h, e, f, add-one k)

  pub octets-done : (out : List ℕ) (k : ℕ) → length line / 2 ≤ k → out ≡ sets out k (line_octets (drop (k * 2) line))
  octets-done out k h = sym (ap (sets out k) (octets-last k h))

module _ (xs : List ℕ) where
  digits-next : (k : ℕ) → k < length xs
      → octet_digits (drop k xs) ≡ upper_digit (get_or xs k 0 / 16) ∷ upper_digit (get_or xs k 0 % 16) ∷ octet_digits (drop (k + 1) xs)
  unfolding octet_digits
  digits-next k h = rw (add-one, drop-cons xs k 0)

  digits_last : (k : ℕ) → length xs ≤ k → octet_digits (drop k xs) ≡ []
  unfolding octet_digits
  digits_last k h = ap octet_digits (drop_of_length-le xs h)

  pub digits-turn : (out : List ℕ) (k d e : ℕ) → k < length xs → d ≡ upper_digit (get_or xs k 0 / 16) → e ≡ upper_digit (get_or xs k 0 % 16)
      → sets (set (set out (k * 2) d) (k * 2 + 1) e) ((k + 1) * 2) (octet_digits (drop (k + 1) xs)) ≡ sets out (k * 2) (octet_digits (drop k xs))
  digits-turn out k d e h p q =
      let n : (k + 1) * 2 ≡ suc (suc (k * 2)) = omega arith in
      rw (digits-next k h, p, q, n, add-one (k * 2))

  pub digits-done : (out : List ℕ) (k : ℕ) → length xs ≤ k → out ≡ sets out (k * 2) (octet_digits (drop k xs))
  digits-done out k h = sym (ap (sets out (k * 2)) (digits_last k h))
