-- Decimal digits: how they are found, their number, and what pins them down: they are digits, their value is the number, and the first is
-- no zero unless the number is.
use mathlib.Core.Path.{◌≡◌, refl, ◌∙◌}
use mathlib.Core.List.{List, [], ◌∷◌, ◌++◌, append_assoc}
use Prim.Native.Nat.{ℕ, zero, suc, ◌+◌, ◌-◌, ◌*◌, ◌/◌, ◌%◌, ◌^◌, ◌<◌, ◌≤◌}
use native.Mathlib.Omega.{arith}
use lib.Dec.{ltb}
use lib.ListN.{get_or, length, drop, set, length-append, length-set}
use lib.Seq.{drop-cons, get_or-set_same, drop-set-lt}
use borrow.Author.Tests.{lt-ltb, le-ltb, ltb-true, ltb-false}
use Rattle.choices.proofs.Choices.{by-test}
use Rattle.choices.specs.Branch.{choose}
use Rattle.decimals.specs.Decimal.{digit, decimal_within, decimal}
use Rattle.decimals.specs.Numerals.{value_from}

-- a number of one digit, and of more
pub one-digit : (n x : ℕ) → x < 10 → decimal_within (suc n) x ≡ digit x ∷ []
unfolding decimal_within choose
one-digit n x h = rw (lt-ltb x 10 h)

pub more-digits : (n x : ℕ) → 10 ≤ x → decimal_within (suc n) x ≡ decimal_within n (x / 10) ++ (digit (x % 10) ∷ [])
unfolding decimal_within choose
more-digits n x h = rw (le-ltb x 10 h)

none_within : (x : ℕ) → decimal_within zero x ≡ []
unfolding decimal_within
none_within x = refl

-- by the number of digits
by_digits : {G : Type 0} (x : ℕ) → (x < 10 → G) → (10 ≤ x → G) → G
by_digits x f g = by-test (ltb x 10) (λ e. f (omega (arith, ltb-true x 10 e))) (λ e. g (omega (arith, ltb-false x 10 e)))

pub decimal-most : (n x : ℕ) → length (decimal_within n x) ≤ n
decimal-most zero x = rw (none_within x) (omega arith)
decimal-most (suc n) x =
    by_digits x
    (λ h. rw (one-digit n x h) (omega arith))
    (λ h. rw (more-digits n x h, length-append) (omega (arith, decimal-most n (x / 10))))

-- a number stored at the end of the digits before it
drop-stored : (l : List ℕ) (i v : ℕ) → i < length l → drop i (set l i v) ≡ v ∷ drop (suc i) l
drop-stored l i v h =
    drop-cons (set l i v) i 0 (rw length-set h)
    ∙ rw (get_or-set_same l i v 0 h, drop-set-lt (suc i) l i v (omega arith))

pub digit-stored : (l : List ℕ) (i x : ℕ) → i < length l → 10 ≤ x
    → decimal_within i (x / 10) ++ drop i (set l i (48 + x % 10)) ≡ decimal_within (suc i) x ++ drop (suc i) l
digit-stored l i x h k =
    rw (drop-stored l i (48 + x % 10) h, more-digits i x k, append_assoc)

pub first-stored : (l : List ℕ) (i x : ℕ) → i < length l → x < 10 → drop i (set l i (48 + x)) ≡ decimal_within (suc i) x ++ drop (suc i) l
first-stored l i x h k = rw (drop-stored l i (48 + x) h, one-digit i x k)

-- what is left of a number has a digit less
pub digits-left : (n x : ℕ) → 10 ≤ x → x < 10 ^ n → (0 < n - 1) × (x / 10 < 10 ^ (n - 1)) × (suc (n - 1) ≡ n)
digits-left zero x h k = absurd (omega arith)
digits-left (suc zero) x h k = absurd (omega arith)
digits-left (suc (suc n)) x h k =
    let e : suc (suc n) - 1 ≡ suc n = omega arith in
    (omega arith, rw e (omega arith), omega arith)

-- the turns of the loop: the next digit is stored, and the first
module _ (x n rest : ℕ) (l end : List ℕ) (f : n ≤ length l) (e : decimal_within n rest ++ drop n l ≡ decimal x ++ end) where
  pub stored-turn : 10 ≤ rest → rest < 10 ^ n
      → decimal_within (n - 1) (rest / 10) ++ drop (n - 1) (set l (n - 1) (48 + rest % 10)) ≡ decimal x ++ end
  stored-turn h k =
      let s = (digits-left n rest h k).2 in
      digit-stored l (n - 1) rest (omega arith) h ∙ rw s e

  pub stored_last : rest < 10 → 0 < n → drop (n - 1) (set l (n - 1) (48 + rest)) ≡ decimal x ++ end
  stored_last h k =
      let s : suc (n - 1) ≡ n = omega arith in
      first-stored l (n - 1) rest (omega arith) h ∙ rw s e

-- the last digit of more
value-last : (before : ℕ) (ds : List ℕ) (d : ℕ) → value_from before (ds ++ (d ∷ [])) ≡ value_from before ds * 10 + (d - 48)
value-last before [] d = refl
value-last before (x ∷ ds) d = value-last (before * 10 + (x - 48)) ds d

-- whether a character is a decimal digit
abbrev Digit : ℕ → Type 0
Digit c = (48 ≤ c) × (c ≤ 57)

-- whether all are
abbrev pub Digits : List ℕ → Type 0
Digits [] = Unit {0}
Digits (c ∷ cs) = Digit c × Digits cs

digits_last : (cs : List ℕ) (c : ℕ) → Digits cs → Digit c → Digits (cs ++ (c ∷ []))
digits_last [] c h k = (k, tt)
digits_last (x ∷ cs) c h k = (h.0, digits_last cs c h.1 k)

pub within-digits : (n x : ℕ) → Digits (decimal_within n x)
within-digits zero x = rw (none_within x) tt
within-digits (suc n) x =
    by_digits x
    (λ h. rw (one-digit n x h) ((omega arith, omega arith), tt))
    (λ h. rw (more-digits n x h) (digits_last (decimal_within n (x / 10)) (digit (x % 10)) (within-digits n (x / 10)) (omega arith, omega arith)))

pub within-value : (n x : ℕ) → x < 10 ^ n → value_from 0 (decimal_within n x) ≡ x
within-value zero x h = rw (none_within x) (omega arith)
within-value (suc n) x h =
    by_digits x
    (λ k. rw (one-digit n x k) (omega arith))
    (λ k. rw (more-digits n x k, value-last 0 (decimal_within n (x / 10)) (digit (x % 10)), within-value n (x / 10) (omega arith)) (omega arith))

first_of : (cs : List ℕ) (c : ℕ) → 0 < length cs → get_or (cs ++ (c ∷ [])) 0 0 ≡ get_or cs 0 0
first_of [] c h = absurd (omega arith)
first_of (x ∷ cs) c h = refl

pub within-some : (n x : ℕ) → 0 < n → 0 < length (decimal_within n x)
within-some zero x h = absurd (omega arith)
within-some (suc n) x h =
    by_digits x
    (λ k. rw (one-digit n x k) (omega arith))
    (λ k. rw (more-digits n x k, length-append) (omega arith))

pub within-leading : (n x : ℕ) → x < 10 ^ n → 0 < x → 48 < get_or (decimal_within n x) 0 0
within-leading zero x h k = absurd (omega arith)
within-leading (suc n) x h k =
    by_digits x
    (λ s. rw (one-digit n x s) (omega arith))
    (λ s.
    let d = digits-left (suc n) x s h in
    let e : suc n - 1 ≡ n = omega arith in
    rw (more-digits n x s, first_of (decimal_within n (x / 10)) (digit (x % 10)) (within-some n (x / 10) (rw e at d.0)))
    (within-leading n (x / 10) (omega arith) (omega arith)))

-- what pins the digits down, of every number that a machine word holds
pub record Decimal (x : ℕ) (ds : List ℕ) : Type 0 where
  pub digits : Digits ds
  pub value : value_from 0 ds ≡ x
  pub leading : 0 < x → 48 < get_or ds 0 0
  pub zero_is : x ≡ 0 → ds ≡ 48 ∷ []

pub decimal-is : (x : ℕ) → x < 10 ^ 20 → Decimal x (decimal x)
decimal-is x h =
    record {
      digits = within-digits 20 x;
      value = within-value 20 x h;
      leading = within-leading 20 x h;
      zero_is = λ e. rw e (one-digit 19 0 (omega arith));
    }

power-some : (k : ℕ) → 0 < 10 ^ k
power-some zero = omega arith
power-some (suc k) = let i = power-some k in omega arith

-- a number from a power of ten up to the next has one digit more than the power
pub digits-counted : (n k x : ℕ) → k < n → 10 ^ k ≤ x → x < 10 * 10 ^ k → length (decimal_within n x) ≡ k + 1
digits-counted zero k x h l u = absurd (omega arith)
digits-counted (suc n) zero x h l u = rw (one-digit n x (omega arith))
digits-counted (suc n) (suc k) x h l u =
    let p = power-some k in
    let i = digits-counted n k (x / 10) (omega arith) (omega arith) (omega arith) in
    rw (more-digits n x (omega arith), length-append) (omega (arith, i))
