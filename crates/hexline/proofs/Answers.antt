-- The answers of decoding and encoding, and what accepted digits and lines are.
use Rattle.std.specs.Prelude.{Some, None, Ok, Err}
use mathlib.Core.Path.{◌≡◌, refl}
use mathlib.Core.Bool.{Bool, true, false}
use mathlib.Core.List.{List}
use Prim.Native.Nat.{ℕ, ◌*◌, ◌/◌, ◌%◌, ◌<◌, ◌≤◌}
use native.Mathlib.Omega.{arith}
use lib.Dec.{ltb, eqb}
use lib.ListN.{length}
use borrow.Author.Tests.{ltb-false, eqb-false, lt-ltb, le-ltb, eq-eqb, ne_eqb}
use Rattle.choices.proofs.Choices.{clash}
use Rattle.hexline.specs.Decoding.{line_limit, all_digits, digits_decoded, decoded_of}
use Rattle.hexline.specs.Encoding.{encoded_of}
use Rattle.hexline.specs.declared.Undecoded.TheVariants.{NoRoom, NotDigits, TooLong}

-- the answers of decoding digits, in the order of the tests
module _ (digits : List ℕ) (room : ℕ) where
  pub odd-count : length digits % 2 ≡ 1 → digits_decoded digits room ≡ Err NotDigits
  unfolding digits_decoded
  odd-count o = simp (eq-eqb (length digits % 2) 1 o)

  module _ (o : length digits % 2 ≡ 1 → ⊥) where
    pub no_digit : all_digits digits ≡ false → digits_decoded digits room ≡ Err NotDigits
    unfolding digits_decoded
    no_digit a = simp (ne_eqb (length digits % 2) 1 o, a)

    pub no_room : all_digits digits ≡ true → room < length digits / 2 → digits_decoded digits room ≡ Err NoRoom
    unfolding digits_decoded
    no_room a l = simp (ne_eqb (length digits % 2) 1 o, a, lt-ltb room (length digits / 2) l)

    pub taken : all_digits digits ≡ true → length digits / 2 ≤ room → digits_decoded digits room ≡ Ok (length digits / 2)
    unfolding digits_decoded
    taken a l = simp (ne_eqb (length digits % 2) 1 o, a, le-ltb room (length digits / 2) l)

-- the answers of decoding a line
module _ (line : List ℕ) (room : ℕ) where
  pub too_long : line_limit < length line → decoded_of line room ≡ Err TooLong
  unfolding decoded_of
  too_long h = simp (lt-ltb line_limit (length line) h)

  pub within-limit : length line ≤ line_limit → decoded_of line room ≡ digits_decoded line room
  unfolding decoded_of
  within-limit h = simp (le-ltb line_limit (length line) h)

-- what accepted digits are
pub record Accepted (line : List ℕ) (room n : ℕ) : Type 0 where
  pub even : length line % 2 ≡ 0
  pub digits : all_digits line ≡ true
  pub count : n ≡ length line / 2
  pub fits : n ≤ room

module _ (line : List ℕ) (room n : ℕ) where
  digits-accepted-by : (b d f : Bool) → eqb (length line % 2) 1 ≡ b → all_digits line ≡ d → ltb room (length line / 2) ≡ f
      → digits_decoded line room ≡ Ok n → Accepted line room n
  unfolding digits_decoded
  digits-accepted-by true d f q r s e = let h = simp q at e in clash cc
  digits-accepted-by false false f q r s e = let h = simp (q, r) at e in clash cc
  digits-accepted-by false true true q r s e = let h = simp (q, r, s) at e in clash cc
  digits-accepted-by false true false q r s e =
      let h = simp (q, r, s) at e in
      let c : n ≡ length line / 2 = cc in
      let o = eqb-false (length line % 2) 1 q in
      record {
        even = omega arith;
        digits = r;
        count = c;
        fits = omega (arith, ltb-false room (length line / 2) s);
      }

  pub digits-accepted : digits_decoded line room ≡ Ok n → Accepted line room n
  digits-accepted e = digits-accepted-by _ _ _ refl refl refl e

  accepted-by : (a : Bool) → ltb line_limit (length line) ≡ a → decoded_of line room ≡ Ok n → (length line ≤ line_limit) × Accepted line room n
  unfolding decoded_of
  accepted-by true p e = let h = simp p at e in clash cc
  accepted-by false p e = (ltb-false line_limit (length line) p, digits-accepted (simp p at e))

  -- an accepted line is within the limit, and its digits are accepted
  pub accepted : decoded_of line room ≡ Ok n → (length line ≤ line_limit) × Accepted line room n
  accepted e = accepted-by _ refl e

-- the answers of encoding
module _ (octets : List ℕ) (room : ℕ) where
  pub no-room-for-digits : room < length octets * 2 → encoded_of octets room ≡ None
  unfolding encoded_of
  no-room-for-digits h = simp (lt-ltb room (length octets * 2) h)

  pub digits-fit : length octets * 2 ≤ room → encoded_of octets room ≡ Some (length octets * 2)
  unfolding encoded_of
  digits-fit h = simp (le-ltb room (length octets * 2) h)
