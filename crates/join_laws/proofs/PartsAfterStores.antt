-- Parts of a list after a run of stores: those that it does not meet, the one that it fills, and the one that it makes longer.
use mathlib.Core.Path.{◌≡◌, refl, sym, ap, ◌∙◌}
use mathlib.Core.List.{List, [], ◌∷◌, ◌++◌}
use Prim.Native.Nat.{ℕ, zero, suc, ◌+◌, ◌≤◌}
use native.Mathlib.Nat.{zero-add, suc-add, le_refl}
use native.Mathlib.Omega.{arith}
use lib.ListN.{length, take, drop, set, length-append}
use lib.Seq.{sets, sets-eq, take-nil, take-set-le, drop-set-lt, take-add, drop-drop, take_at, drop_at, length-take-le}

module _ {ℓ} {A : Type ℓ} where
  -- a part in the middle is the end of a front
  pub part-front : (n k : ℕ) (l : List A) → take n (drop k l) ≡ drop k (take (k + n) l)
  part-front n zero l = ap (λ (m : ℕ). take m l) (sym (zero-add n))
  part-front n (suc k) [] = take-nil n ∙ sym (ap (drop (suc k)) (take-nil (suc k + n)))
  part-front n (suc k) (x ∷ l) = part-front n k l ∙ ap (λ (m : ℕ). drop (suc k) (take m (x ∷ l))) (sym (suc-add k n))

  -- a run of stores at or past n leaves the first n alone; one that ends before n leaves the rest alone
  pub take-sets : (n : ℕ) (l : List A) (at : ℕ) (vs : List A) → n ≤ at → take n (sets l at vs) ≡ take n l
  take-sets n l at [] h = refl
  take-sets n l at (a ∷ vs) h = take-sets n (set l at a) (suc at) vs (omega arith) ∙ take-set-le n l at a h

  pub drop-sets : (n : ℕ) (l : List A) (at : ℕ) (vs : List A) → at + length vs ≤ n → drop n (sets l at vs) ≡ drop n l
  drop-sets n l at [] h = refl
  drop-sets n l at (a ∷ vs) h = drop-sets n (set l at a) (suc at) vs (omega arith) ∙ drop-set-lt n l at a (omega arith)

  pub part-before : (n k : ℕ) (l : List A) (at : ℕ) (vs : List A) → k + n ≤ at → take n (drop k (sets l at vs)) ≡ take n (drop k l)
  part-before n k l at vs h = part-front n k (sets l at vs) ∙ ap (drop k) (take-sets (k + n) l at vs h) ∙ sym (part-front n k l)

  pub part-behind : (n k : ℕ) (l : List A) (at : ℕ) (vs : List A) → at + length vs ≤ k → take n (drop k (sets l at vs)) ≡ take n (drop k l)
  part-behind n k l at vs h = ap (take n) (drop-sets k l at vs h)

  pub part_filled : (l : List A) (at : ℕ) (vs : List A) → at + length vs ≤ length l → take (length vs) (drop at (sets l at vs)) ≡ vs
  part_filled l at vs h =
      let e : length (take at l) ≡ at = length-take-le at l (omega arith) in
      let f : length (take at l ++ vs) ≡ at + length vs = length-append (take at l) vs ∙ ap (λ (n : ℕ). n + length vs) e in
      part-front (length vs) at (sets l at vs)
      ∙ ap (λ (m : List A). drop at (take (at + length vs) m)) (sets-eq vs l at h)
      ∙ ap (drop at) (take_at (take at l ++ vs) (drop (at + length vs) l) (at + length vs) f)
      ∙ drop_at (take at l) vs at e

  pub part-longer : (n k : ℕ) (l : List A) (vs : List A) → k + n + length vs ≤ length l
      → take (n + length vs) (drop k (sets l (k + n) vs)) ≡ take n (drop k l) ++ vs
  part-longer n k l vs h =
      take-add n (length vs) (drop k (sets l (k + n) vs))
      ∙ ap (λ (m : List A). m ++ take (length vs) (drop n (drop k (sets l (k + n) vs)))) (part-before n k l (k + n) vs (le_refl (k + n)))
      ∙ ap (λ (m : List A). take n (drop k l) ++ take (length vs) m) (drop-drop n k (sets l (k + n) vs))
      ∙ ap (λ (m : List A). take n (drop k l) ++ m) (part_filled l (k + n) vs h)
