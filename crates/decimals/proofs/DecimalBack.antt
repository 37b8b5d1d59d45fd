-- Numbers read digit by digit, and the digits of a number read back.
use Rattle.std.specs.Prelude.{Option, Some, None}
use Rattle.std.specs.Option.{SomeIff}
use mathlib.Core.Path.{◌≡◌, refl, sym, ap, ◌∙◌}
use mathlib.Core.Bool.{true, false}
use mathlib.Core.List.{List, [], ◌∷◌}
use Prim.Native.Nat.{ℕ, suc, ◌+◌, ◌-◌, ◌*◌, ◌<◌, ◌≤◌}
use native.Mathlib.Numerals.{add-one}
use native.Mathlib.Omega.{arith}
use lib.Dec.{ltb}
use lib.ListN.{get_or, length, drop, drop_of_length-le}
use lib.Seq.{drop-cons}
use borrow.Author.Tests.{ltb-true, ltb-false, lt-ltb, le-ltb, le-leb, ne_eqb}
use Rattle.choices.proofs.Choices.{by-test, clash}
use Rattle.choices.specs.Branch.{choose}
use Rattle.decimals.specs.Decimal.{decimal}
use Rattle.decimals.specs.Numerals.{most_number, is_numeral, all_numerals, value_from, number_upto, number_from, number_word, onward}
use Rattle.decimals.proofs.DecimalIs.{Digits, decimal-is, within-some}

-- one character behind a number: no digit, one too many, and the next
pub numeral-not : (x c : ℕ) → is_numeral c ≡ false → None ≡ onward x c
unfolding onward choose
numeral-not x c h = rw h

module _ (x c : ℕ) (h : 48 ≤ c) (k : c ≤ 57) where
  pub numeral-over : most_number < x * 10 + (c - 48) → None ≡ onward x c
  unfolding onward number_upto choose
  numeral-over l = rw (le-leb 48 c h, le-leb c 57 k, lt-ltb most_number (x * 10 + (c - 48)) l)

  pub numeral-next : x * 10 + (c - 48) ≤ most_number → Some (x * 10 + (c - 48)) ≡ onward x c
  unfolding onward number_upto choose
  numeral-next l = rw (le-leb 48 c h, le-leb c 57 k, le-ltb most_number (x * 10 + (c - 48)) l)

  -- ten times the number and the digit, added where the sum is no more than the largest
  pub numeral-sum : (m d : ℕ) (r : Option ℕ) → m ≡ x * 10 → d ≡ c - 48 → SomeIff r (m + d < 18446744073709551616) (m + d) → r ≡ onward x c
  numeral-sum m d None e f s = numeral-over (omega (arith, s))
  numeral-sum m d (Some y) e f s =
      let v : y ≡ x * 10 + (c - 48) = omega (arith, s.1) in ap Some v ∙ numeral-next (omega (arith, s.0))

-- what a number with a character behind it is
record Onward (x c y : ℕ) : Type 0 where
  numeral : is_numeral c ≡ true
  value : y ≡ x * 10 + (c - 48)
  most : y ≤ most_number

onward-is : (x c y : ℕ) → Some y ≡ onward x c → Onward x c y
unfolding onward number_upto choose
onward-is x c y e =
    by-test (is_numeral c)
    (λ n.
    by-test (ltb most_number (x * 10 + (c - 48)))
    (λ l. let f = rw (n, l) at e in clash cc)
    (λ l.
    let f : (Some y) ≡ Some (x * 10 + (c - 48)) = rw (n, l) at e in
    let v : y ≡ x * 10 + (c - 48) = cc in
    let m = ltb-false most_number (x * 10 + (c - 48)) l in
    record { numeral = n; value = v; most = omega arith }))
    (λ n. let f = rw n at e in clash cc)

-- digits only add to a number
value-more : (before : ℕ) (cs : List ℕ) → before ≤ value_from before cs
value-more before [] = omega arith
value-more before (c ∷ cs) = omega (arith, value-more (before * 10 + (c - 48)) cs)

from_next : (x c : ℕ) (cs : List ℕ) → is_numeral c ≡ true → number_from x (c ∷ cs) ≡ number_from (x * 10 + (c - 48)) cs
unfolding number_from all_numerals
from_next x c cs n = rw n

from-none : (x c : ℕ) (cs : List ℕ) → is_numeral c ≡ false → number_from x (c ∷ cs) ≡ None
unfolding number_from all_numerals choose
from-none x c cs n = rw n

from-over : (x : ℕ) (cs : List ℕ) → most_number < x → number_from x cs ≡ None
unfolding number_from number_upto choose
from-over x cs h =
    let m = value-more x cs in
    by-test (all_numerals cs) (λ a. rw (a, lt-ltb most_number (value_from x cs) (omega arith))) (λ a. rw a)

from-off : (x c : ℕ) (cs : List ℕ) → None ≡ onward x c → number_from x (c ∷ cs) ≡ None
unfolding onward number_upto choose
from-off x c cs e =
    by-test (is_numeral c)
    (λ n.
    by-test (ltb most_number (x * 10 + (c - 48)))
    (λ l. from_next x c cs n ∙ from-over (x * 10 + (c - 48)) cs (ltb-true _ _ l))
    (λ l. let f = rw (n, l) at e in clash cc))
    (λ n. from-none x c cs n)

-- the turns of the loop
module _ (word : List ℕ) (x i : ℕ) (h : i < length word) where
  pub read-on : (y : ℕ) → Some y ≡ onward x (get_or word i 0) → (y ≤ most_number) × (number_from y (drop (i + 1) word) ≡ number_from x (drop i word))
  read-on y e =
      let o = onward-is x (get_or word i 0) y e in
      (o.most, rw (add-one i, drop-cons word i 0 h, from_next x (get_or word i 0) (drop (suc i) word) o.numeral, o.value))

  pub read_off : None ≡ onward x (get_or word i 0) → None ≡ number_from x (drop i word)
  read_off e = rw (drop-cons word i 0 h) (sym (from-off x (get_or word i 0) (drop (suc i) word) e))

pub read_done : (word : List ℕ) (x i : ℕ) → length word ≤ i → x ≤ most_number → Some x ≡ number_from x (drop i word)
unfolding number_from number_upto all_numerals choose
read_done word x i h k = rw (drop_of_length-le word h, le-ltb most_number x k)

-- the digits of a number are read back as the number
numerals-all : (cs : List ℕ) → Digits cs → all_numerals cs ≡ true
unfolding all_numerals
numerals-all [] d = refl
numerals-all (c ∷ cs) d = rw (le-leb 48 c d.0.0, le-leb c 57 d.0.1) (numerals-all cs d.1)

pub decimal-back : (x : ℕ) → x ≤ most_number → number_word (decimal x) ≡ Some x
unfolding number_word number_from number_upto choose
decimal-back x h =
    let d = decimal-is x (omega arith) in
    rw (ne_eqb (length (decimal x)) 0 (λ z. omega (arith, within-some 20 x (omega arith))), numerals-all (decimal x) d.digits, d.value, le-ltb most_number x h)
