-- What is known of a number that is one of a value's refusals.
use mathlib.Core.Path.{◌≡◌, sym, subst}
use mathlib.Core.List.{List, [], ◌∷◌}
use mathlib.Core.Bool.{true, false≢true}
use Prim.Native.Nat.{ℕ, ◌<◌, ◌≤◌}
use native.Mathlib.Omega.{arith}
use lib.Dec.{eqb}
use borrow.Author.Tests.{eqb-true}
use Rattle.choices.specs.Lists.{any_of, All}
use Rattle.choices.proofs.Choices.{by-test}
use Rattle.value_meaning.specs.Refusals.{value_refusals, is_value_refusal}

-- a number that is one of a list's is of what holds of all these
any-holds : (P : ℕ → Type 0) (n : ℕ) (l : List ℕ) → any_of (eqb n) l ≡ true → All P l → P n
unfolding any_of
any-holds P n [] e h = absurd (false≢true e)
any-holds P n (m ∷ l) e h =
    by-test (eqb n m)
    (λ t. subst P (sym (eqb-true n m t)) h.0)
    (λ t. any-holds P n l (rw t at e) h.1)

-- what holds of each of a value's refusals
pub refusal-holds : (P : ℕ → Type 0) → All P value_refusals → (n : ℕ) → is_value_refusal n ≡ true → P n
unfolding is_value_refusal
refusal-holds P h n e = any-holds P n value_refusals e h

-- their bounds
pub refusal-bounds : (n : ℕ) → is_value_refusal n ≡ true → (50 ≤ n) × (n ≤ 56)
refusal-bounds =
    refusal-holds (λ n. (50 ≤ n) × (n ≤ 56))
    (omega arith, (omega arith, (omega arith, (omega arith, (omega arith, (omega arith, (omega arith, tt)))))))

-- a refusal's number is none of an accepted value
pub refusal-some : (n : ℕ) → is_value_refusal n ≡ true → 0 < n
refusal-some n e = let b = refusal-bounds n e in omega arith
