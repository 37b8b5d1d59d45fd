-- One law for every loop that counts: what is left to do from here gives what all gives from the start.
use mathlib.Core.Path.{◌≡◌, sym, ap, ◌∙◌}
use Prim.Native.Nat.{ℕ, suc, ◌+◌, ◌-◌, ◌≤◌, ◌<◌}
use native.Mathlib.Nat.{sub-zero}
use native.Mathlib.Omega.{arith}

left-suc : (n j : ℕ) → j < n → n - j ≡ suc (n - (j + 1))
left-suc n j h = omega arith

-- F m x is what m turns give from x on
module _ {X Y : Type 0} (F : ℕ → X → Y) (n : ℕ) (x₀ : X) where
  -- j of n turns are done, and x is where the next one begins
  pub record Left (j : ℕ) (x : X) : Type 0 where
    pub few : j ≤ n
    pub rest : F (n - j) x ≡ F n x₀

  pub left-none : Left 0 x₀
  left-none = record { few = omega arith; rest = ap (λ (m : ℕ). F m x₀) (sub-zero n) }

  module _ {j : ℕ} {x : X} (l : Left j x) where
    -- a turn that decides the answer
    pub left_here : j < n → (y : Y) → ((m : ℕ) → F (suc m) x ≡ y) → y ≡ F n x₀
    left_here h y e = sym (ap (λ (m : ℕ). F m x) (left-suc n j h) ∙ e (n - (j + 1))) ∙ l.rest

    -- a turn that leads on
    pub left-more : j < n → (x' : X) → ((m : ℕ) → F (suc m) x ≡ F m x') → Left (j + 1) x'
    left-more h x' e =
        record { few = omega arith; rest = sym (ap (λ (m : ℕ). F m x) (left-suc n j h) ∙ e (n - (j + 1))) ∙ l.rest }

    -- no turn is left
    pub left_end : n ≤ j → F 0 x ≡ F n x₀
    left_end h = let z : 0 ≡ n - j = omega arith in ap (λ (m : ℕ). F m x) z ∙ l.rest
