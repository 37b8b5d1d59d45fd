-- The part of a number is the next one behind so many; a header has at most seven.
use Rattle.std.specs.Prelude.{Some, None}
use mathlib.Core.Path.{◌≡◌, refl, ap, ◌∙◌}
use mathlib.Core.List.{List, [], ◌∷◌}
use Prim.Native.Nat.{ℕ, zero, suc, ◌+◌, ◌≤◌}
use native.Mathlib.Omega.{arith}
use lib.ListN.{length, drop, drop_of_length-le}
use Rattle.std.specs.List.{slice_get}
use Rattle.choices.proofs.Choices.{by-test, clash}
use Rattle.header_layout.specs.declared.HeaderPart.{HeaderPart}
use Rattle.header_layout.specs.Layout.{is_request, layout_of, part_number}
use Rattle.version.specs.Versions.{body_starts_with_id}

pub no_more : (xs : List HeaderPart) (n : ℕ) → length xs ≤ n → part_number xs n ≡ None
unfolding part_number
no_more [] n h = refl
no_more (x ∷ xs) zero h = clash (omega (arith, h))
no_more (x ∷ xs) (suc n) h = no_more xs n (omega (arith, h))

-- a number that is at least n and is not n
pub past : (n k : ℕ) → n ≤ k → (k ≡ n → ⊥) → suc n ≤ k
past n k h e = omega (arith, h, e)

-- the part of a number is what `get` gives
pub part-got : (xs : List HeaderPart) (n : ℕ) → slice_get xs n ≡ part_number xs n
unfolding part_number
part-got [] n = refl
part-got (x ∷ xs) zero = refl
part-got (x ∷ xs) (suc n) = part-got xs n

-- the part of a number, and those behind it
module _ (x : HeaderPart) where
  pub next-is : (xs : List HeaderPart) (n : ℕ) → part_number xs n ≡ Some x → drop n xs ≡ x ∷ drop (n + 1) xs
  unfolding part_number
  next-is [] n e = clash cc
  next-is (y ∷ xs) zero e = let a : y ≡ x = cc in ap (λ (z : HeaderPart). z ∷ xs) a
  next-is (y ∷ xs) (suc n) e = next-is xs n e ∙ ap (λ (k : ℕ). x ∷ drop k (y ∷ xs)) (suc_one n)
    where
      suc_one : (m : ℕ) → suc (m + 1) ≡ suc m + 1
      suc_one m = omega arith

pub none_is : (xs : List HeaderPart) (n : ℕ) → part_number xs n ≡ None → drop n xs ≡ []
unfolding part_number
none_is [] n e = drop_of_length-le [] {i = n} (omega arith)
none_is (y ∷ xs) zero e = clash cc
none_is (y ∷ xs) (suc n) e = none_is xs n e

pub at-most-seven : (kind minor : ℕ) → length (layout_of kind minor) ≤ 7
unfolding layout_of
at-most-seven kind minor =
    by-test (is_request kind)
    (λ r. by-test (body_starts_with_id minor) (λ b. rw (r, b) (omega arith)) (λ b. rw (r, b) (omega arith)))
    (λ r. by-test (body_starts_with_id minor) (λ b. rw (r, b) (omega arith)) (λ b. rw (r, b) (omega arith)))
