-- The answers, visits, their bound, and 39, all together.
use Rattle.std.specs.Prelude.{Ok, Err}
use mathlib.Core.Path.{◌≡◌, refl, sym, ap, subst, ◌∙◌}
use mathlib.Core.List.{List}
use mathlib.Core.Bool.{false}
use Prim.Native.Nat.{ℕ, ◌+◌, ◌*◌, ◌≤◌, ◌<◌}
use native.Mathlib.Omega.{arith}
use lib.Dec.{eqb, ltb}
use lib.ListN.{length}
use borrow.Author.Tests.{eqb-true, eqb-false, ltb-true, ltb-false, lt-ltb, le-ltb}
use Rattle.choices.specs.Branch.{choose}
use Rattle.choices.proofs.Choices.{by-test, clash, or-false}
use Rattle.cdr.specs.declared.Order.{Order}
use Rattle.type_counts.specs.declared.Refusal.TheVariants.{TooLong}
use Rattle.type_walk.specs.Types.{walked_of}
use Rattle.typecode.specs.TypeCode.{checked_type}
use Rattle.type_laws.specs.Loops.{KindCount}
use Rattle.type_laws.proofs.Exactly39.{accepted-as}
use Rattle.type_laws.proofs.LoopsExactly.{loops-exactly, refuses-exactly, accepted-count}
use Rattle.type_laws.proofs.CountOnce.{count-once}
use Rattle.value_meaning.specs.declared.ValueAnswer.{ValueAnswer}
use Rattle.value_meaning.specs.Sinks.{Source, St}
use Rattle.value_meaning.specs.Visit.{checked}
use Rattle.value_meaning.specs.Reading.{Log, room_for}
use Rattle.cdr.specs.Limit.{octets_limit}
use Rattle.value_meaning.specs.Value.{room_in, visits_in, reading_answer, overlong, reading_of, value_answer, filled_by, table_after}
use Rattle.value_meaning.specs.Demand.{Accepts, AnswerOf, ReadUnder, Demand3}
use Rattle.value_meaning.proofs.ByChoice.{by-choice}
use Rattle.value_meaning.proofs.EnoughRoom.{room-kept}
use Rattle.value_meaning.proofs.VisitsBounded.{visits-bound}
use Rattle.value_meaning.proofs.OnlyValueRefusals.{Refused, fault-is}
use Rattle.typecode.specs.declared.NoType.TheVariants.{Refused as refused}

-- what an answer of a reading says, and the table that it fills or leaves
answer-of : (s : St Log) (table : List ℕ) → Refused s → length s.kept.items ≤ room_in table
    → AnswerOf s table (reading_answer s) (filled_by (reading_answer s) table s.kept.items)
answer-of s table h room =
    by-choice (λ (a : ValueAnswer). AnswerOf s table a (filled_by a table s.kept.items)) (eqb s.fault 0)
    (λ e. (eqb-true s.fault 0 e, refl, refl, refl, omega arith, refl))
    (λ e. (refl, h (eqb-false s.fault 0 e), refl, refl))

visits-of : (s : St Log) → visits_in (reading_answer s) ≡ s.kept.visits
visits-of s = by-choice (λ (a : ValueAnswer). visits_in a ≡ s.kept.visits) (eqb s.fault 0) (λ e. refl) (λ e. refl)

module _ (v : List ℕ) (order : Order) where
  too_long : octets_limit < length v → (checked_type v order).answer ≡ Err (refused TooLong)
  unfolding checked_type walked_of choose
  too_long h = rw (lt-ltb octets_limit (length v) h)

  module _ (used k : ℕ) (type : (checked_type v order).answer ≡ Ok (used, k)) where
    type-short : length v ≤ octets_limit
    type-short =
        by-test (ltb octets_limit (length v))
        (λ t. let q = too_long (ltb-true octets_limit (length v) t) in clash cc)
        (λ t. ltb-false octets_limit (length v) t)

    module _ (x : Source) (room : ℕ) (short : length x.octets ≤ octets_limit) where
      not-overlong : overlong v x ≡ false
      not-overlong =
          or-false (ltb octets_limit (length v)) (ltb octets_limit (length x.octets))
          (le-ltb octets_limit (length v) type-short) (le-ltb octets_limit (length x.octets) short)

      -- under an accepted type the answer is the reading's
      pub answer-is : value_answer v order x room ≡ reading_answer (reading_of (room_for room) v order x)
      unfolding value_answer choose
      answer-is = rw (not-overlong, type)

    read_under : (x : Source) (table : List ℕ) → length x.octets ≤ octets_limit → ReadUnder k v order x table
    unfolding reading_of table_after
    read_under x table short =
        let full = room_for (room_in table) in
        let s : St Log = reading_of full v order x in
        let is = answer-is x (room_in table) short in
        let bound = visits-bound full x v order k (checked_type v order).kinds (accepted-as v order used k type) in
        record {
          answer = subst (λ (a : ValueAnswer). AnswerOf s table a (filled_by a table s.kept.items)) (sym is)
              (answer-of s table (fault-is full x (checked v (checked_type v order).kinds))
              (room-kept (room_in table) x (checked v (checked_type v order).kinds)));
          bound = subst (λ (n : ℕ). n ≤ k * (length x.octets + 1)) (sym (ap visits_in is ∙ visits-of s)) bound;
        }

  -- the number of kinds written is the one that the check gives
  read-counted : Accepts v order → (k : ℕ) → KindCount v order k → (x : Source) → length x.octets ≤ octets_limit → (table : List ℕ) → ReadUnder k v order x table
  read-counted h k c x short table =
      let e : h.1 ≡ k = count-once v order h.1 k (accepted-count v order h.0 h.1 h.2) c in
      subst (λ (n : ℕ). ReadUnder n v order x table) e (read_under h.0 h.1 h.2 x table short)

pub demand-3 : (v : List ℕ) (order : Order) → Demand3 v order
demand-3 v order =
    record {
      reads = read-counted v order;
      kinds = accepted-count v order;
      faults = refuses-exactly v order;
      loops = loops-exactly v order;
    }
