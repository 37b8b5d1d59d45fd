-- Texts and counted octets: which answer each test leads to, and the zeros found one octet at a time.
use Rattle.std.specs.Prelude.{Some, None, Ok, Err}
use mathlib.Core.Path.{◌≡◌, refl, sym}
use mathlib.Core.List.{List, [], ◌∷◌, ◌++◌}
use mathlib.Core.Bool.{Bool, true, false, cond, not, ◌||◌, or-true, or-false}
use Prim.Native.Nat.{ℕ, ◌+◌, ◌-◌, ◌<◌, ◌≤◌}
use native.Mathlib.Numerals.{add-one}
use native.Mathlib.Omega.{arith}
use lib.Dec.{eqb, ltb}
use lib.ListN.{get_or, length, take, drop, drop_of_length-le}
use lib.Seq.{drop-cons}
use borrow.Author.Tests.{lt-ltb, le-ltb, ltb-true, ltb-false, eq-eqb, ne_eqb}
use Rattle.choices.specs.Lists.{any_of}
use Rattle.choices.proofs.Choices.{by-test, clash}
use Rattle.cdr_text.specs.Text.{over_bound, has_zero, is_nil, ends_text, text_of, run_of}
use Rattle.cdr_text.specs.declared.TextFault.TheVariants.{Empty, Over, Short, Zeros}

module _ (v : List ℕ) (at n bound : ℕ) where
  pub text-empty : n ≡ 0 → text_of v at n bound ≡ Err Empty
  unfolding text_of
  text-empty e = rw (eq-eqb n 0 e)

  module _ (e : n ≡ 0 → ⊥) where
    pub text-over : over_bound (n - 1) bound ≡ true → text_of v at n bound ≡ Err Over
    unfolding text_of
    text-over o = rw (ne_eqb n 0 e, o)

    module _ (o : over_bound (n - 1) bound ≡ false) where
      pub text-short : length v < at + n → text_of v at n bound ≡ Err Short
      unfolding text_of
      text-short h = rw (ne_eqb n 0 e, o, lt-ltb (length v) (at + n) h)

      pub text-zeros : at + n ≤ length v → (b : Bool) → b ≡ ends_text (take n (drop at v))
          → text_of v at n bound ≡ cond b (Ok (n - 1)) (Err Zeros)
      unfolding text_of
      text-zeros h b f = rw (ne_eqb n 0 e, o, le-ltb (length v) (at + n) h, f)

module _ (v : List ℕ) (at n : ℕ) where
  pub run_past : length v < at + n → run_of v at n ≡ None
  unfolding run_of
  run_past h = rw (lt-ltb (length v) (at + n) h)

  pub run-to : at + n ≤ length v → run_of v at n ≡ Some (at + n)
  unfolding run_of
  run-to h = rw (le-ltb (length v) (at + n) h)

  run_by : (t : Bool) → ltb (length v) (at + n) ≡ t → (e : ℕ) → run_of v at n ≡ Some e → (e ≡ at + n) × (at + n ≤ length v)
  run_by true t e r = let p = run_past (ltb-true _ _ t) in clash cc
  run_by false t e r = let p = run-to (ltb-false _ _ t) in (cc, ltb-false _ _ t)

  short-by : (t : Bool) → ltb (length v) (at + n) ≡ t → run_of v at n ≡ None → length v < at + n
  short-by true t r = ltb-true _ _ t
  short-by false t r = let p = run-to (ltb-false _ _ t) in clash cc

  -- what each answer of a run tells
  pub run-facts : (e : ℕ) → run_of v at n ≡ Some e → (e ≡ at + n) × (at + n ≤ length v)
  run-facts e r = run_by _ refl e r

  pub run_short : run_of v at n ≡ None → length v < at + n
  run_short r = short-by _ refl r

  -- the octets from a run's start to its end
  pub text-part : (e : ℕ) → e ≡ at + n → ends_text (take (e - at) (drop at v)) ≡ ends_text (take n (drop at v))
  text-part e q = let m : e - at ≡ n = omega arith in rw m

-- ---- zeros, octet by octet

module _ (s : List ℕ) (i : ℕ) (h : i < length s) (found : Bool) where
  pub zero-here : get_or s i 0 ≡ 0 → (true || has_zero (drop (i + 1) s)) ≡ (found || has_zero (drop i s))
  unfolding has_zero any_of
  zero-here e = sym (rw (drop-cons s i 0 h, eq-eqb (get_or s i 0) 0 e) (or-true found))

  pub none_here : (get_or s i 0 ≡ 0 → ⊥) → (found || has_zero (drop (i + 1) s)) ≡ (found || has_zero (drop i s))
  unfolding has_zero any_of
  none_here e = rw (add-one i, drop-cons s i 0 h, ne_eqb (get_or s i 0) 0 e)

pub none_left : (s : List ℕ) (i : ℕ) (found : Bool) → length s ≤ i → found ≡ (found || has_zero (drop i s))
unfolding has_zero any_of
none_left s i found h = rw (drop_of_length-le s h) (sym (or-false found))

-- ---- a text is judged by its last octet and those before it

not-nil : (l : List ℕ) (x : ℕ) → is_nil (l ++ (x ∷ [])) ≡ false
not-nil [] x = refl
not-nil (y ∷ l) x = refl

pub ends-zero : (l : List ℕ) (x : ℕ) → x ≡ 0 → ends_text (l ++ (x ∷ [])) ≡ not (has_zero l)
unfolding ends_text has_zero any_of
ends-zero [] x e = rw (eq-eqb x 0 e)
ends-zero (y ∷ l) x e = by-test (eqb y 0) (λ t. rw t (not-nil l x)) (λ t. rw t (ends-zero l x e))

pub ends-other : (l : List ℕ) (x : ℕ) → (x ≡ 0 → ⊥) → ends_text (l ++ (x ∷ [])) ≡ false
unfolding ends_text
ends-other [] x e = rw (ne_eqb x 0 e)
ends-other (y ∷ l) x e = by-test (eqb y 0) (λ t. rw t (not-nil l x)) (λ t. rw t (ends-other l x e))

pub ends-none : (s : List ℕ) → length s ≡ 0 → ends_text s ≡ false
unfolding ends_text
ends-none [] e = refl
ends-none (x ∷ l) e = absurd (omega (arith, e))
