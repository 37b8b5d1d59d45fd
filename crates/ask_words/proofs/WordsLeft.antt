-- Words by their places in a line.
use Rattle.std.specs.Prelude.{Option, Some, None}
use mathlib.Core.Path.{◌≡◌, refl, sym, ap, ◌∙◌}
use mathlib.Core.List.{List, [], ◌∷◌, ◌++◌}
use Prim.Native.Nat.{ℕ, ◌+◌, ◌-◌, ◌<◌, ◌≤◌}
use native.Mathlib.Omega.{arith}
use lib.Dec.{eqb, ltb}
use lib.ListN.{length, take, drop, length-drop}
use lib.Seq.{take_all, drop-drop}
use borrow.Author.Tests.{ltb-true, ltb-false, lt-ltb, le-ltb}
use Rattle.choices.proofs.Choices.{by-test}
use Rattle.choices.specs.Branch.{choose}
use Rattle.cdr.specs.declared.Order.{Order}
use Rattle.decimals.specs.Numerals.{number_word}
use Rattle.ask_words.specs.declared.Coded.{Coded}
use Rattle.ask_words.specs.Words.{space, words_from, words, order_word}
use Rattle.ask_words.specs.Found.{FirstWord}
use Rattle.ask_words.specs.Fields.{first_is, none, number_first, coded_first, no_more}
use Rattle.ask_words.specs.Inner.{left, part, InLine, WordAt, Passed, OrderRead, CodedRead}

-- a part up to the end of a line
part-all : (v : List ℕ) (b : ℕ) → take (length v - b) (drop b v) ≡ drop b v
part-all v b = take_all (length v - b) (drop b v) (omega (arith, length-drop b v))

pub none_left : (line : List ℕ) (from : ℕ) → length line < from → left line from ≡ []
unfolding left choose
none_left line from h = rw (lt-ltb (length line) from h)

some_left : (line : List ℕ) (from : ℕ) → from ≤ length line → left line from ≡ words (drop from line)
unfolding left choose
some_left line from h = rw (le-ltb (length line) from h)

-- from the start on, all words are left
pub all_left : (line : List ℕ) → left line 0 ≡ words line
all_left line = some_left line 0 (omega arith)

module _ (line : List ℕ) (from : ℕ) where
  pub word_none : length line < from → WordAt line from None
  word_none h = record { found = none_left line from h; within = tt }

  module _ (h : from ≤ length line) (e : ℕ) (f : FirstWord (take (length line - from) (drop from line)) e) where
    first-there : FirstWord (drop from line) e
    first-there = rw (part-all line from) at f

    pub word-there : WordAt line from (Some (from + e))
    word-there =
        let g = first-there in
        let w = g.within in
        let l = length-drop from line in
        let s : from + e - from ≡ e = omega arith in
        record {
          found = rw (some_left line from h, s)
              (by-test (ltb e (length (drop from line)))
              (λ t.
              let k = ltb-true e (length (drop from line)) t in
              let n : from + (e + 1) ≡ from + e + 1 = omega arith in
              g.more k
              ∙ ap (λ (ws : List (List ℕ)). take e (drop from line) ∷ ws)
              (ap words (drop-drop (e + 1) from line ∙ ap (λ (j : ℕ). drop j line) n) ∙ sym (some_left line (from + e + 1) (omega arith))))
              (λ t.
              let k = ltb-false e (length (drop from line)) t in
              g.only k
              ∙ rw (take_all e (drop from line) k, none_left line (from + e + 1) (omega arith))));
          within = record { forward = omega arith; inside = omega arith };
        }

-- a word that was found is within the line
pub word-within : {line : List ℕ} {from : ℕ} {r : (Option ℕ)} → WordAt line from r → (end : ℕ) → r ≡ Some end → InLine line from end
word-within a end e = rw e at a.within

-- and one more is passed
pub word-passed : {line : List ℕ} {from : ℕ} {r : (Option ℕ)} → WordAt line from r → (end : ℕ) → r ≡ Some end → Passed line from (end + 1)
word-passed {line} {from} a end e =
    let w = word-within a end e in
    let z : end + 1 - 1 ≡ end = omega arith in
    record { on = omega (arith, w.forward); inside = omega (arith, w.inside); found = rw (a.found, e, z) }

-- an order, a number
module _ (line : List ℕ) (from : ℕ) (w : Option ℕ) (a : WordAt line from w) where
  pub order-none : w ≡ None → OrderRead line from None
  order-none e = record { read = rw (a.found, e); passed = tt }

  pub number-none : w ≡ None → none ≡ number_first (left line from)
  number-none e = rw (a.found, e)

  module _ (end : ℕ) (e : w ≡ Some end) where
    pub order_other : None ≡ order_word (part line from end) → OrderRead line from None
    order_other n = record { read = rw (a.found, e, ← n); passed = tt }

    pub order_is : (order : Order) → Some order ≡ order_word (part line from end) → OrderRead line from (Some (order, end + 1))
    order_is order n = record { read = rw (a.found, e, ← n); passed = word-passed a end e }

    pub number-other : None ≡ number_word (part line from end) → none ≡ number_first (left line from)
    number-other n = rw (a.found, e, ← n)

    pub number_is : (x : ℕ) → Some x ≡ number_word (part line from end) → first_is x (left line (end + 1)) ≡ number_first (left line from)
    number_is x n = rw (a.found, e, ← n)

-- ORDER and the word behind it
module _ (line : List ℕ) (from : ℕ) (o : Option (Order × ℕ)) (a : OrderRead line from o) where
  pub coded_none : o ≡ None → CodedRead line from None
  unfolding coded_first
  coded_none e = record { read = rw (← a.read, e); within = tt; passed = tt }

  module _ (order : Order) (next : ℕ) (e : o ≡ Some (order, next)) (w : Option ℕ) (b : WordAt line next w) where
    pub coded-alone : w ≡ None → CodedRead line from None
    unfolding coded_first
    coded-alone f = record { read = rw (← a.read, e, b.found, f); within = tt; passed = tt }

    pub coded-is : (end : ℕ) → w ≡ Some end → CodedRead line from (Some (record { order = order; from = next; end = end }))
    unfolding coded_first
    coded-is end f =
        let p : Passed line from next = rw e at a.passed in
        record { read = rw (← a.read, e, b.found, f); within = word-within b end f; passed = (p, word-passed b end f) }

pub coded-within : {line : List ℕ} {from : ℕ} {r : (Option Coded)} → CodedRead line from r → (c : Coded) → r ≡ Some c → InLine line c.from c.end
coded-within a c e = rw e at a.within

-- and it was passed, with ORDER before it
pub coded-passed : {line : List ℕ} {from : ℕ} {r : (Option Coded)} → CodedRead line from r → (c : Coded) → r ≡ Some c
    → Passed line from c.from × Passed line c.from (c.end + 1)
coded-passed a c e = rw e at a.passed

-- within the line there is a word more
some_more : {A : Type 0} (begun s : List ℕ) (ended more : A) → no_more (words_from begun s) ended more ≡ more
unfolding words_from choose
some_more begun [] ended more = refl
some_more begun (c ∷ s) ended more = by-test (eqb c space) (λ e. rw e) (λ e. rw e (some_more (begun ++ (c ∷ [])) s ended more))

pub more_left : {A : Type 0} (line : List ℕ) (from : ℕ) (ended more : A) → from ≤ length line → more ≡ no_more (left line from) ended more
more_left line from ended more h = rw (some_left line from h) (sym (some_more [] (drop from line) ended more))
