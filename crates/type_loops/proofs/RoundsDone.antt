-- The turns of the loops, and what they come to.
use mathlib.Core.Path.{◌≡◌, refl, sym, ◌∙◌, ap, subst}
use mathlib.Core.Bool.{◌&&◌, ◌||◌, or-false}
use mathlib.Core.List.{List}
use mathlib.Core.Logic.{⊎_elim}
use Prim.Native.Nat.{ℕ, min, ◌+◌, ◌<◌, ◌≤◌}
use native.Mathlib.Omega.{arith}
use native.Mathlib.Numerals.{add-one}
use lib.ListN.{get_or, set, length, length-set}
use lib.Seq.{get_or-set_same, get_or-set_other}
use Rattle.choices.proofs.Choices.{by-test}
use Rattle.type_loops.specs.Loops.{closure, loop_found, bit_at, cell}
use Rattle.type_numbers.specs.{kinds_limit}
use Rattle.type_loops.specs.Inner.{through_row, RoundDone, Closed, some_returns}
use Rattle.type_loops.proofs.RowBits.{bit-or}
use Rattle.type_loops.proofs.SomeBelow.{last-or-below, any_same}

-- what a turn of a round's loop knows: the rows below i are done, and the others are as they were
pub record RoundTo (n k onward : ℕ) (before after : List ℕ) (i : ℕ) : Type 0 where
  pub low : i ≤ n
  pub long : length after ≡ kinds_limit
  pub done : (x : ℕ) → x < i → get_or after x 0 ≡ through_row (get_or before x 0) k onward
  pub same : (x : ℕ) → i ≤ x → get_or after x 0 ≡ get_or before x 0

pub round-none : (n k onward : ℕ) (before : List ℕ) → length before ≡ kinds_limit → RoundTo n k onward before before 0
round-none n k onward before l =
    record { low = omega arith; long = l; done = λ x h. absurd (omega arith); same = λ x h. refl }

module _ (n k onward : ℕ) (before after : List ℕ) (i row : ℕ) (small : n ≤ kinds_limit) (h : i < n) (r : RoundTo n k onward before after i)
    (e : row ≡ through_row (get_or after i 0) k onward) where
  other : (x : ℕ) → (x ≡ i → ⊥) → get_or (set after i row) x 0 ≡ get_or after x 0
  other x f = get_or-set_other after i x row 0 f

  here : get_or (set after i row) i 0 ≡ through_row (get_or before i 0) k onward
  here =
      get_or-set_same after i row 0 (omega (arith, r.long)) ∙ e
      ∙ ap (λ (w : ℕ). through_row w k onward) (r.same i (omega arith))

  pub round-more : RoundTo n k onward before (set after i row) (i + 1)
  round-more =
      record {
        low = omega arith;
        long = length-set after i row ∙ r.long;
        done = λ x l.
            ⊎_elim
            (λ (q : x ≡ i). rw q here)
            (λ (m : x < i). other x (λ q. omega arith) ∙ r.done x m)
            (last-or-below x i (omega arith));
        same = λ x l. other x (λ q. omega arith) ∙ r.same x (omega arith);
      }

pub round-all : (n k : ℕ) (before after : List ℕ) (i : ℕ) → n ≤ i → RoundTo n k (get_or before k 0) before after i
    → RoundDone n k before after
round-all n k before after i h r = record { long = r.long; all = λ x l. r.done x (omega arith) }

bit-through : (row k onward j : ℕ) → bit_at (through_row row k onward) j ≡ (bit_at row j || (bit_at row k && bit_at onward j))
unfolding through_row
bit-through row k onward j =
    by-test (bit_at row k) (λ e. rw e (bit-or row onward j)) (λ e. rw e (sym (or-false (bit_at row j))))

-- the rounds
pub closed_none : (n : ℕ) (rows : List ℕ) → Closed n 0 rows rows
unfolding closure
closed_none n rows = record { all = λ i j l. refl }

pub closed-more : (n k : ℕ) (before rows after : List ℕ) → k < n → Closed n k before rows → RoundDone n k rows after
    → Closed n (k + 1) before after
unfolding closure
closed-more n k before rows after h r d =
    record {
      all = λ i j l.
          ap (λ (row : ℕ). bit_at row j) (d.all i l) ∙ bit-through (get_or rows i 0) k (get_or rows k 0) j
          ∙ rw (add-one k, r.all i j l, r.all i k l, r.all k j h);
    }

pub closed_all : (n k : ℕ) (before after : List ℕ) → k ≤ n → n ≤ k → Closed n k before after → Closed n n before after
closed_all n k before after l h r = let e : k ≡ n = omega arith in subst (λ (m : ℕ). Closed n m before after) e r

-- the search in the closed rows answers as the definition does
pub some-found : (n m : ℕ) (before after : List ℕ) → m ≡ min n kinds_limit → Closed m m before after
    → some_returns m after ≡ loop_found (min n kinds_limit) (cell before)
unfolding some_returns loop_found
some-found n m before after e r =
    any_same m (λ i. cell after i i) (λ i. closure (cell before) m i i) (λ i l. r.all i i l)
    ∙ ap (λ (x : ℕ). loop_found x (cell before)) e
