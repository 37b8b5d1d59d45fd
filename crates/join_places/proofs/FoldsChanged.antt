-- Sums, tests and searches over the first so many places: what each says of every place, and what a change at one place changes.
use Rattle.std.specs.Prelude.{Option, Some, None}
use mathlib.Core.Path.{◌≡◌, refl, sym, ap, ◌∙◌}
use mathlib.Core.Bool.{Bool, true, false, cond, ◌||◌}
use Prim.Native.Nat.{ℕ, zero, suc, ◌+◌, ◌≤◌, ◌<◌}
use native.Mathlib.Decide.{ℕ_discrete}
use native.Mathlib.Omega.{arith}
use Rattle.choices.proofs.Choices.{chosen, neither, or-false}
use Rattle.join_places.specs.Places.{sum_over, some_with, or_else, first_with}

-- a place below so many and one more is the last of them, or below so many
last-or-below : {G : Type 0} (i n : ℕ) → i < suc n → (i ≡ n → G) → (i < n → G) → G
last-or-below {G = G} i n h last below = by (ℕ_discrete i n)
  where
    by : Dec (i ≡ n) → G
    by (yes e) = last e
    by (no other) = below (omega arith)

-- sums: of numbers that are the same everywhere,
module _ (f g : ℕ → ℕ) where
  pub sum_same : (n : ℕ) → ((j : ℕ) → j < n → g j ≡ f j) → sum_over g n ≡ sum_over f n
  unfolding sum_over
  sum_same zero same = refl
  sum_same (suc n) same =
      let rest = sum_same n (λ j h. same j (omega arith)) in
      let last = same n (omega arith) in
      omega arith

  -- and of numbers that differ at one place
  pub sum-changed : (n i : ℕ) → i < n → ((j : ℕ) → (j ≡ i → ⊥) → g j ≡ f j) → sum_over g n + f i ≡ sum_over f n + g i
  unfolding sum_over
  sum-changed zero i h same = absurd (omega arith)
  sum-changed (suc n) i h same =
      last-or-below i n h
      (λ e.
      let rest = sum_same n (λ j l. same j (λ s. omega arith)) in
      let a = ap f e in
      let b = ap g e in
      omega arith)
      (λ l.
      let rest = sum-changed n i l same in
      let last = same n (λ s. omega arith) in
      omega arith)

-- numbers of at most 1: their sum is at most the places, and it is all of them exactly where each is 1
module _ (f : ℕ → ℕ) where
  pub sum-most : (n : ℕ) → ((i : ℕ) → f i ≤ 1) → sum_over f n ≤ n
  unfolding sum_over
  sum-most zero most = omega arith
  sum-most (suc n) most = let rest = sum-most n most in let last = most n in omega arith

  pub sum-full : (n : ℕ) → ((i : ℕ) → f i ≤ 1) → n ≤ sum_over f n → (i : ℕ) → i < n → f i ≡ 1
  unfolding sum_over
  sum-full zero most h i l = absurd (omega arith)
  sum-full (suc n) most h i l =
      let a = sum-most n most in
      let b = most n in
      last-or-below i n l (λ e. let c = ap f e in omega arith) (λ m. sum-full n most (omega arith) i m)

  pub sum-of-ones : (n : ℕ) → ((i : ℕ) → i < n → f i ≡ 1) → sum_over f n ≡ n
  unfolding sum_over
  sum-of-ones zero ones = refl
  sum-of-ones (suc n) ones =
      let rest = sum-of-ones n (λ i h. ones i (omega arith)) in
      let last = ones n (omega arith) in
      omega arith

or_right : (a : Bool) → (a || true) ≡ true
or_right true = refl
or_right false = refl

module _ (p : ℕ → Bool) where
  -- one place that has the property is enough, and none has it only where each has it not
  pub some-here : (n i : ℕ) → i < n → p i ≡ true → some_with p n ≡ true
  unfolding some_with
  some-here zero i h e = absurd (omega arith)
  some-here (suc n) i h e =
      last-or-below i n h
      (λ s. ap (λ (b : Bool). some_with p n || b) (sym (ap p s) ∙ e) ∙ or_right (some_with p n))
      (λ l. ap (λ (b : Bool). b || p n) (some-here n i l e))

  pub some-none : (n : ℕ) → some_with p n ≡ false → (i : ℕ) → i < n → p i ≡ false
  unfolding some_with
  some-none zero e i h = absurd (omega arith)
  some-none (suc n) e i h =
      let both = neither (some_with p n) (p n) e in
      last-or-below i n h (λ s. ap p s ∙ both.1) (some-none n both.0 i)

  pub none-some : (n : ℕ) → ((i : ℕ) → i < n → p i ≡ false) → some_with p n ≡ false
  unfolding some_with
  none-some zero each = refl
  none-some (suc n) each = or-false (some_with p n) (p n) (none-some n (λ i h. each i (omega arith))) (each n (omega arith))

  -- the place that is found first, and that none is
  pub record First (n i : ℕ) : Type 0 where
    pub place : i < n
    pub here : p i ≡ true
    pub below : (j : ℕ) → j < i → p j ≡ false

  abbrev pub FirstOf : ℕ → Option ℕ → Type 0
  FirstOf n (Some i) = First n i
  FirstOf n None = (i : ℕ) → i < n → p i ≡ false

  pub first-is : (n : ℕ) → FirstOf n (first_with p n)
  unfolding first_with
  first-is zero = λ i h. absurd (omega arith)
  first-is (suc n) = onward (first_with p n) (first-is n)
    where
      onward : (found : Option ℕ) → FirstOf n found → FirstOf (suc n) (or_else found (cond (p n) (Some n) None))
      onward (Some i) f = let h = f.place in record { place = omega arith; here = f.here; below = f.below }
      onward None each =
          chosen (FirstOf (suc n)) (p n) _ _
          (λ e. record { place = omega arith; here = e; below = each })
          (λ e i h. last-or-below i n h (λ s. ap p s ∙ e) (each i))
