-- Choices by a test, tests joined by `and` and `or`, and cases that cannot be.
use mathlib.Core.Path.{◌≡◌, refl}
use mathlib.Core.Bool.{Bool, true, false, cond, ◌&&◌, ◌||◌, false≢true, true≢false}
use Prim.Native.Nat.{ℕ}
use native.Mathlib.Omega.{arith}

-- by a test, with what it says
pub by-test : {G : Type 0} (t : Bool) → (t ≡ true → G) → (t ≡ false → G) → G
by-test true f g = f refl
by-test false f g = g refl

-- what holds of both ways of a choice holds of the choice
pub chosen : {A : Type 0} (P : A → Type 0) (b : Bool) (x y : A) → (b ≡ true → P x) → (b ≡ false → P y) → P (cond b x y)
chosen P true x y f g = f refl
chosen P false x y f g = g refl

pub never_both : (b : Bool) → b ≡ true → b ≡ false → ⊥
never_both true e f = true≢false f
never_both false e f = false≢true e

-- two answers of an enum that are not the same: `cc` finds the path
pub clash : {A : Type 0} → ◌≡◌ {A = ℕ} 0 1 → A
clash z = absurd (omega arith)

pub and-true : (a b : Bool) → (a && b) ≡ true → (a ≡ true) × (b ≡ true)
and-true true b e = (refl, e)
and-true false b e = absurd (false≢true e)

pub and-false : (a b : Bool) → (a ≡ true → b ≡ false) → (a && b) ≡ false
and-false true b f = f refl
and-false false b f = refl

pub or-false : (a b : Bool) → a ≡ false → b ≡ false → (a || b) ≡ false
or-false true b e f = e
or-false false b e f = f

pub neither : (a b : Bool) → (a || b) ≡ false → (a ≡ false) × (b ≡ false)
neither true b e = absurd (true≢false e)
neither false b e = (refl, e)
