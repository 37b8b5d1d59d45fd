-- Loops are decided, whatever decides a step.
use mathlib.Core.Path.{◌≡◌}
use mathlib.Core.Bool.{Bool, true}
use mathlib.Core.Logic.{⊎_elim}
use Prim.Native.Nat.{ℕ, zero, suc, ◌<◌}
use native.Mathlib.Nat.{le_refl}
use Rattle.type_loops.specs.Loops.{closure, loop_found}
use Rattle.type_loops.proofs.SomeBelow.{any_some, some-any, any_same}
use Rattle.type_loops.proofs.ClosureWays.{ways, has-step, goes_on, closure-same}

-- from a kind to a kind in one or more steps
pub data Reaches (step : ℕ → ℕ → Bool) : ℕ → ℕ → Type 0 where
  once : {i j : ℕ} → step i j ≡ true → Reaches step i j
  then : {i j k : ℕ} → step i j ≡ true → Reaches step j k → Reaches step i k

-- some kind below n returns to itself
abbrev pub Returns : ℕ → (ℕ → ℕ → Bool) → Type 0
Returns n step = (i : ℕ) × (i < n) × Reaches step i i

module _ (step : ℕ → ℕ → Bool) where
  reaches-on : {i m j : ℕ} → Reaches step i m → Reaches step m j → Reaches step i j
  reaches-on (once h) r = then h r
  reaches-on (then h p) r = then h (reaches-on p r)

  -- what the closure finds is reached
  sound : (k i j : ℕ) → closure step k i j ≡ true → Reaches step i j
  unfolding closure
  sound zero i j e = once e
  sound (suc k) i j e = ⊎_elim (λ a. sound k i j a) (λ b. reaches-on (sound k i k b.0) (sound k k j b.1)) (ways step k i j e)

module _ (n : ℕ) (step : ℕ → ℕ → Bool) (inside : (i j : ℕ) → i < n → step i j ≡ true → j < n) where
  -- what is reached the closure finds
  complete : {i j : ℕ} → i < n → Reaches step i j → closure step n i j ≡ true
  complete {i} {j} l (once h) = has-step step n i j h
  complete {i} {j} l (then {j = m} h r) =
      let k = inside i m l h in
      goes_on step n i m j k (has-step step n i m h) (complete k r)

  -- a loop is found exactly when some kind returns to itself
  pub loop-decided : (loop_found n step ≡ true → Returns n step) × (Returns n step → loop_found n step ≡ true)
  unfolding loop_found
  loop-decided = (
    (λ e. let s = any_some n (λ i. closure step n i i) e in (s.0, s.1, sound step n s.0 s.0 s.2)),
    (λ r. some-any n (λ i. closure step n i i) r.0 r.1 (complete r.1 r.2)),
  )

-- only the steps between kinds below n count
pub found-same : (n : ℕ) (f g : ℕ → ℕ → Bool) → ((i j : ℕ) → i < n → j < n → f i j ≡ g i j) → loop_found n f ≡ loop_found n g
unfolding loop_found
found-same n f g h =
    any_same n (λ i. closure f n i i) (λ i. closure g n i i) (λ i l. closure-same n f g h n i i (le_refl n) l l)
