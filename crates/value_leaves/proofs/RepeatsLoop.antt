-- A loop that repeats a step: what is left of it gives the same answer.
use Rattle.std.proofs.Common.{◌≡◌, ℕ, ◌+◌, ◌-◌, ◌<◌, ◌≤◌, length, sym, refl, ap, ◌∙◌, arith}
use native.Mathlib.Nat.{sub-zero}
use Rattle.value_meaning.specs.Sinks.{St, repeats}
use Rattle.value_meaning.proofs.ReadingCases.{repeats-end, repeats-go, repeats-stop}
use Rattle.value_cursor.specs.Lent.{Lent}

abbrev pub rows : St Lent → ℕ
rows s = length s.kept.table

-- j of n steps are done from s₀ on, and s is the state
pub record Going (f : St Lent → St Lent) (n j : ℕ) (s₀ s : St Lent) : Type 0 where
  pub few : j ≤ n
  pub same : rows s ≡ rows s₀
  pub rest : repeats f (n - j) s ≡ repeats f n s₀

module _ {f : St Lent → St Lent} {n : ℕ} {s₀ : St Lent} where
  pub going-none : Going f n 0 s₀ s₀
  going-none = record { few = omega arith; same = refl; rest = ap (λ (i : ℕ). repeats f i s₀) (sub-zero n) }

  module _ {j : ℕ} {s : St Lent} (going : Going f n j s₀ s) where
    pub going-all : n ≤ j → s ≡ repeats f n s₀
    going-all h = sym (repeats-end f n j s h) ∙ going.rest

    module _ {r : St Lent} (more : j < n) (step : r ≡ f s) where
      pub going-stop : (r.fault ≡ 0 → ⊥) → r ≡ repeats f n s₀
      going-stop z = sym (repeats-stop f n j s r more step z) ∙ going.rest

      pub going_more : rows r ≡ rows s → r.fault ≡ 0 → Going f n (j + 1) s₀ r
      going_more e z = record { few = omega arith; same = e ∙ going.same; rest = sym (repeats-go f n j s r more step z) ∙ going.rest }
