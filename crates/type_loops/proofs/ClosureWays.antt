-- Warshall's closure: it has the steps, it goes on through the kinds below k, and it asks only for steps between kinds below n.
use mathlib.Core.Path.{◌≡◌}
use mathlib.Core.Bool.{Bool, true, or-true}
use mathlib.Core.Logic.{◌⊎◌, inl, inr, ⊎_elim}
use Prim.Native.Nat.{ℕ, zero, suc, ◌<◌, ◌≤◌}
use native.Mathlib.Omega.{arith}
use Rattle.choices.proofs.Choices.{by-test, and-true}
use Rattle.type_loops.specs.Loops.{closure}
use Rattle.type_loops.proofs.SomeBelow.{last-or-below}

module _ (step : ℕ → ℕ → Bool) where
  -- the two ways in which the closure at suc k leads from i to j: not by k, and by k
  abbrev pub Ways : ℕ → ℕ → ℕ → Type 0
  Ways k i j = (closure step k i j ≡ true) ⊎ ((closure step k i k ≡ true) × (closure step k k j ≡ true))

  pub ways : (k i j : ℕ) → closure step (suc k) i j ≡ true → Ways k i j
  unfolding closure
  ways k i j e =
      by-test (closure step k i j)
      (λ a. inl a)
      (λ a. inr (and-true (closure step k i k) (closure step k k j) (rw a at e)))

  straight : (k i j : ℕ) → closure step k i j ≡ true → closure step (suc k) i j ≡ true
  unfolding closure
  straight k i j a = rw a

  through : (k i j : ℕ) → closure step k i k ≡ true → closure step k k j ≡ true → closure step (suc k) i j ≡ true
  unfolding closure
  through k i j a b = rw (a, b) (or-true (closure step k i j))

  pub has-step : (k i j : ℕ) → step i j ≡ true → closure step k i j ≡ true
  unfolding closure
  has-step zero i j e = e
  has-step (suc k) i j e = straight k i j (has-step k i j e)

  to_last : (k i : ℕ) → closure step (suc k) i k ≡ true → closure step k i k ≡ true
  to_last k i e = ⊎_elim (λ a. a) (λ b. b.0) (ways k i k e)

  from_last : (k j : ℕ) → closure step (suc k) k j ≡ true → closure step k k j ≡ true
  from_last k j e = ⊎_elim (λ a. a) (λ b. b.1) (ways k k j e)

  -- from i to j by way of m, where the closure at k goes on through m
  on-by : (k i m j : ℕ) → ((x y : ℕ) → closure step k x m ≡ true → closure step k m y ≡ true → closure step k x y ≡ true)
      → Ways k i m → Ways k m j → closure step (suc k) i j ≡ true
  on-by k i m j on (inl a) (inl b) = straight k i j (on i j a b)
  on-by k i m j on (inl a) (inr b) = through k i j (on i k a b.0) b.1
  on-by k i m j on (inr a) (inl b) = through k i j a.0 (on k j a.1 b)
  on-by k i m j on (inr a) (inr b) = through k i j a.0 b.1

  pub goes_on : (k i m j : ℕ) → m < k → closure step k i m ≡ true → closure step k m j ≡ true → closure step k i j ≡ true
  goes_on zero i m j h p q = absurd (omega arith)
  goes_on (suc k) i m j h p q =
      ⊎_elim
      (λ (e : m ≡ k). through k i j (to_last k i (rw e at p)) (from_last k j (rw e at q)))
      (λ (l : m < k). on-by k i m j (λ x y. goes_on k x m y l) (ways k i m p) (ways k m j q))
      (last-or-below m k h)

pub closure-same : (n : ℕ) (f g : ℕ → ℕ → Bool) → ((i j : ℕ) → i < n → j < n → f i j ≡ g i j)
    → (k i j : ℕ) → k ≤ n → i < n → j < n → closure f k i j ≡ closure g k i j
unfolding closure
closure-same n f g h zero i j l a b = h i j a b
closure-same n f g h (suc k) i j l a b =
    let m : k ≤ n = omega arith in
    let same = closure-same n f g h k in
    rw (same i j m a b, same i k m a l, same k j m l b)
