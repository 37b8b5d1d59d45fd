-- Where no kind returns to itself, each has a rank that falls at each step.
use mathlib.Core.Path.{◌≡◌, refl}
use mathlib.Core.Bool.{Bool, true, false}
use Prim.Native.Nat.{ℕ, ◌+◌, ◌<◌, ◌≤◌}
use native.Mathlib.Omega.{arith}
use Rattle.choices.proofs.Choices.{by-test, never_both}
use Rattle.type_loops.specs.Loops.{closure, loop_found}
use Rattle.type_loops.proofs.SomeBelow.{some-any, count_below, count-lt, count-all}
use Rattle.type_loops.proofs.ClosureWays.{has-step, goes_on}

-- one more than the number of kinds below n that a kind leads to
unfoldable pub rank : ℕ → (ℕ → ℕ → Bool) → ℕ → ℕ
rank n step i = count_below n (closure step n i) + 1

module _ (n : ℕ) (step : ℕ → ℕ → Bool) (h : loop_found n step ≡ false) where
  never : (i : ℕ) → i < n → closure step n i i ≡ false
  unfolding loop_found
  never i l =
      by-test (closure step n i i)
      (λ e. absurd (never_both (loop_found n step) (some-any n (λ j. closure step n j j) i l e) h))
      (λ e. e)

  pub rank-low : (i : ℕ) → i < n → (0 < rank n step i) × (rank n step i ≤ n)
  unfolding rank
  rank-low i l =
      (omega arith, omega (arith, count-lt n (closure step n i) (λ z. true) i l (never i l) refl (λ z k e. refl), count-all n))

  pub rank_falls : (i j : ℕ) → i < n → j < n → step i j ≡ true → rank n step j < rank n step i
  unfolding rank
  rank_falls i j a b e =
      let s = has-step step n i j e in
      omega (arith, count-lt n (closure step n j) (closure step n i) j b (never j b) s (λ z k q. goes_on step n i j z b s q))
