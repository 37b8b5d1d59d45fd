-- The ways to an answer: a refusal before any visit, or a reading under an accepted type.
use Rattle.std.specs.Prelude.{Result, Ok, Err}
use mathlib.Core.Path.{◌≡◌, sym, ap, ◌∙◌}
use mathlib.Core.List.{List}
use Prim.Native.Nat.{ℕ}
use lib.ListN.{length}
use Rattle.cdr.specs.declared.Order.{Order}
use Rattle.type_kinds.specs.declared.Kind.{Kind}
use Rattle.value_meaning.specs.declared.ValueAnswer.{ValueAnswer}
use Rattle.value_meaning.specs.declared.ValueAnswer.TheVariants.{Refused}
use Rattle.value_items.specs.declared.ItemValue.{ItemValue}
use Rattle.value_meaning.specs.Sinks.{Source}
use Rattle.value_meaning.specs.Visit.{checked}
use Rattle.value_meaning.specs.Reading.{any_room, room_for, reading}
use Rattle.value_meaning.specs.Value.{room_in, reading_answer, reading_of, value_answer, filled_by, table_after}
use Rattle.value_typed.specs.Typed.{Typed, typed_for}
use Rattle.value_typed.proofs.TypedCases.{on_judged, under, answer-judged}
use Rattle.value.specs.Single.{given_by, item_answer}
use Rattle.value.specs.Inner.{read_into, ReadAs}

module _ (v : List ℕ) (order : Order) (x : Source) where
  abbrev octets : ℕ
  octets = length x.octets

  module _ (r : Typed) (e : r ≡ typed_for v order octets) where
    value-judged : (room : ℕ) → value_answer v order x room
        ≡ on_judged r.judged (λ _. reading_answer (reading_of (room_for room) v order x)) (λ n. Refused n 0)
    unfolding value_answer
    value-judged room = answer-judged v order octets (reading_answer (reading_of (room_for room) v order x)) (λ n. Refused n 0) r e

    item-judged : (n : ℕ) → item_answer v order x n ≡ on_judged r.judged (λ _. given_by (reading_of any_room v order x) n) Err
    unfolding item_answer
    item-judged n = answer-judged v order octets (given_by (reading_of any_room v order x) n) Err r e

    pub item_refused : (n number : ℕ) → r.judged ≡ Err number → ◌≡◌ {A = Result ItemValue ℕ} (Err number) (item_answer v order x n)
    item_refused n number s =
        sym (item-judged n ∙ ap (λ (j : Result (Unit {0}) ℕ). on_judged j (λ _. given_by (reading_of any_room v order x) n) Err) s)

    pub item-read : (n : ℕ) → r.judged ≡ Ok tt → given_by (reading any_room x (checked v r.kinds)) n ≡ item_answer v order x n
    unfolding reading_of
    item-read n s =
        ap (λ (m : List Kind). given_by (reading any_room x (checked v m)) n) (sym (under v order octets r e s).met)
        ∙ sym (item-judged n ∙ ap (λ (j : Result (Unit {0}) ℕ). on_judged j (λ _. given_by (reading_of any_room v order x) n) Err) s)

    module _ (table : List ℕ) where
      abbrev answer : ValueAnswer
      answer = value_answer v order x (room_in table)

      abbrev on_value : Result (Unit {0}) ℕ → ValueAnswer
      on_value j = on_judged j (λ _. reading_answer (reading_of (room_for (room_in table)) v order x)) (λ n. Refused n 0)

      -- a refusal before any visit leaves the table
      pub value-refused : (number : ℕ) → r.judged ≡ Err number → (Refused number 0 ≡ answer) × (table ≡ table_after v order x table)
      unfolding table_after
      value-refused number s =
          let a : Refused number 0 ≡ answer = sym (value-judged (room_in table) ∙ ap on_value s) in
          (a, ap (λ (y : ValueAnswer). filled_by y table (reading_of (room_for (room_in table)) v order x).kept.items) a)

      -- the reading under an accepted type is the answer, and fills the table
      pub value_read : r.judged ≡ Ok tt → (y : ValueAnswer) (after : List ℕ) → ReadAs (checked v r.kinds) x table y after
          → (y ≡ answer) × (after ≡ table_after v order x table)
      unfolding table_after reading_of
      value_read s y after read =
          let is = (under v order octets r e s).met in
          let a : read_into (checked v r.kinds) x table ≡ answer =
          ap (λ (m : List Kind). read_into (checked v m) x table) (sym is) ∙ sym (value-judged (room_in table) ∙ ap on_value s) in (
            read.answer ∙ a,
            read.filled
                ∙ ap (λ (u : ValueAnswer). filled_by u table (reading (room_for (room_in table)) x (checked v r.kinds)).kept.items) a
                ∙ ap (λ (m : List Kind). filled_by answer table (reading (room_for (room_in table)) x (checked v m)).kept.items) (sym is),
          )
