-- Whether a test holds of some number below n, and of how many.
use mathlib.Core.Path.{◌≡◌, refl, sym, ◌∙◌, ap}
use mathlib.Core.List.{List, map, [], ◌∷◌}
use mathlib.Core.Bool.{Bool, true, false, cond, or-true, or-false, false≢true}
use mathlib.Core.Logic.{◌⊎◌, ⊎_elim}
use Prim.Native.Nat.{ℕ, zero, suc, ◌+◌, ◌<◌, ◌≤◌}
use native.Mathlib.Omega.{arith}
use native.Mathlib.Nat.{eq-or-lt_of_le}
use Rattle.std.specs.List.{list_any, range_with_len}
use Rattle.std.proofs.lemmas.List.Folds.{list_any-append}
use Rattle.std.proofs.lemmas.List.FromFn.{map-range_with_len_more}
use Rattle.choices.proofs.Choices.{by-test}
use Rattle.type_loops.specs.Loops.{any_below}

-- the numbers below suc n
pub last-or-below : (i n : ℕ) → i < suc n → (i ≡ n) ⊎ (i < n)
last-or-below i n h = eq-or-lt_of_le (omega arith)

-- a test that holds of some number holds of one
pub any_some : (n : ℕ) (f : ℕ → Bool) → any_below n f ≡ true → (i : ℕ) × (i < n) × (f i ≡ true)
unfolding any_below
any_some zero f e = absurd (false≢true e)
any_some (suc n) f e =
    by-test (any_below n f)
    (λ a. let s = any_some n f a in (s.0, omega arith, s.2))
    (λ a. (n, omega arith, rw a at e))

pub some-any : (n : ℕ) (f : ℕ → Bool) (i : ℕ) → i < n → f i ≡ true → any_below n f ≡ true
unfolding any_below
some-any zero f i h e = absurd (omega arith)
some-any (suc n) f i h e =
    ⊎_elim
    (λ (q : i ≡ n). rw (rw q at e) (or-true (any_below n f)))
    (λ (l : i < n). rw (some-any n f i l e))
    (last-or-below i n h)

pub any_same : (n : ℕ) (f g : ℕ → Bool) → ((i : ℕ) → i < n → f i ≡ g i) → any_below n f ≡ any_below n g
unfolding any_below
any_same zero f g h = refl
any_same (suc n) f g h = rw (any_same n f g (λ i l. h i (omega arith)), h n (omega arith))

one-le : (a b : Bool) → (a ≡ true → b ≡ true) → cond a 1 0 ≤ cond b 1 0
one-le true b h = rw (h refl) (omega arith)
one-le false b h = omega arith

-- of how many numbers below n a test holds
unfoldable pub count_below : ℕ → (ℕ → Bool) → ℕ
count_below zero f = 0
count_below (suc n) f = count_below n f + cond (f n) 1 0

pub count-le : (n : ℕ) (f g : ℕ → Bool) → ((z : ℕ) → z < n → f z ≡ true → g z ≡ true) → count_below n f ≤ count_below n g
unfolding count_below
count-le zero f g h = omega arith
count-le (suc n) f g h =
    omega (arith, count-le n f g (λ z l. h z (omega arith)), one-le (f n) (g n) (h n (omega arith)))

-- more, where g holds of a number that f does not hold of
pub count-lt : (n : ℕ) (f g : ℕ → Bool) (w : ℕ) → w < n → f w ≡ false → g w ≡ true → ((z : ℕ) → z < n → f z ≡ true → g z ≡ true)
    → count_below n f < count_below n g
unfolding count_below
count-lt zero f g w l a b h = absurd (omega arith)
count-lt (suc n) f g w l a b h =
    ⊎_elim
    (λ (q : w ≡ n). rw (rw q at a, rw q at b) (omega (arith, count-le n f g (λ z k. h z (omega arith)))))
    (λ (k : w < n).
    omega (arith, count-lt n f g w k a b (λ z y. h z (omega arith)), one-le (f n) (g n) (h n (omega arith))))
    (last-or-below w n l)

pub count-all : (n : ℕ) → count_below n (λ z. true) ≡ n
unfolding count_below
count-all zero = refl
count-all (suc n) = omega (arith, count-all n)

-- a test of the numbers below n, one after the other
any-map : (f : ℕ → Bool) (xs : List ℕ) → list_any (λ b. b) (map f xs) ≡ list_any f xs
any-map f [] = refl
any-map f (x ∷ xs) = rw (any-map f xs)

in-range : (f : ℕ → Bool) (n : ℕ) → list_any (λ b. b) (map f (range_with_len 0 n)) ≡ any_below n f
unfolding any_below
in-range f zero = refl
in-range f (suc n) =
    let on : suc n ≡ n + 1 = omega arith in
    ap (λ (m : ℕ). list_any (λ b. b) (map f (range_with_len 0 m))) on
    ∙ ap (list_any (λ b. b)) (map-range_with_len_more f 0 n n (omega arith))
    ∙ list_any-append (λ b. b) (map f (range_with_len 0 n)) (f n ∷ [])
    ∙ rw (in-range f n, or-false (f n))

pub any-in-range : (f : ℕ → Bool) (n : ℕ) → list_any f (range_with_len 0 n) ≡ any_below n f
any-in-range f n = sym (any-map f (range_with_len 0 n)) ∙ in-range f n
