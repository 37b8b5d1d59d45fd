-- What the walks over a value leave: the reading's numbers, and its items in the table.
use Rattle.std.specs.Prelude.{Result, Ok, Err}
use mathlib.Core.Path.{◌≡◌, sym, ap, subst, ◌∙◌}
use mathlib.Core.List.{List, [], ◌∷◌}
use mathlib.Core.Bool.{true, false}
use Prim.Native.Nat.{ℕ, ◌<◌, ◌≤◌}
use native.Mathlib.Omega.{arith}
use lib.ListN.{length, get_or}
use borrow.Author.Tests.{eq-eqb, ne_eqb, lt-ltb, le-ltb}
use Rattle.choices.specs.Branch.{choose}
use Rattle.value_items.specs.declared.ItemValue.{ItemValue}
use Rattle.value_items.specs.Items.{item_of}
use Rattle.value_meaning.specs.declared.ValueAnswer.{ValueAnswer}
use Rattle.value_meaning.specs.declared.ValueAnswer.TheVariants.{Accepted, Refused}
use Rattle.value_meaning.specs.Sinks.{Source, St}
use Rattle.value_meaning.specs.Visit.{Checked}
use Rattle.value_meaning.specs.Reading.{Log, reads, levels, top_of, any_room, room_for, reading}
use Rattle.value_meaning.specs.Value.{room_in, filled_by, item_no}
use Rattle.value_meaning.proofs.EnoughRoom.{room-kept}
use Rattle.value_cursor.specs.declared.Cursor.{Cursor}
use Rattle.value_cursor.specs.Lent.{lent_sink}
use Rattle.value_cursor.specs.Walk.{state_of, cursor_start}
use Rattle.value_leaves.proofs.ItemsInTable.{filled, row, picked}
use Rattle.value.specs.Single.{given_by}
use Rattle.value_typed.specs.Typed.{FitsWords}
use Rattle.value_typed.proofs.AfterWalk.{after-walk}
use Rattle.value.specs.Inner.{read_into, ReadAs}

module _ (t : Checked) (x : Source) (bounded : FitsWords t x) where
  module _ (table : List ℕ) where
    abbrev result : St Log
    result = reading (room_for (room_in table)) x t

    accepted : result.fault ≡ 0 → read_into t x table ≡ Accepted result.at (length result.kept.items) result.kept.visits
    unfolding choose
    accepted z = rw (eq-eqb result.fault 0 z)

    refused : (result.fault ≡ 0 → ⊥) → read_into t x table ≡ Refused result.fault result.kept.visits
    unfolding choose
    refused z = rw (ne_eqb result.fault 0 z)

    module _ (c : Cursor) (after : List ℕ) (e : state_of c after ≡ reads (lent_sink true false 0) x t levels (top_of t) (state_of cursor_start table)) where
      -- a walk that finds a refusal
      pub found-refusal : (c.fault ≡ 0 → ⊥) → ReadAs t x table (Refused c.fault c.visits) after
      found-refusal z =
          let w = after-walk t x bounded true false 0 table c after e in
          let r = refused (λ y. z (w.fault ∙ y)) in
          let a : Refused c.fault c.visits ≡ read_into t x table =
          ap (λ (n : ℕ). Refused n c.visits) w.fault ∙ ap (Refused result.fault) w.visits ∙ sym r in
          record { answer = a; filled = w.rows ∙ ap (λ (y : ValueAnswer). filled_by y table result.kept.items) (sym r) }

      -- a walk that finds none, and the one that fills the table after it
      pub found_none : c.fault ≡ 0 → (d : Cursor) (last : List ℕ)
          → state_of d last ≡ reads (lent_sink true true 0) x t levels (top_of t) (state_of cursor_start after)
          → ReadAs t x table (Accepted d.at d.items d.visits) last
      found_none z d last f =
          let w = after-walk t x bounded true false 0 table c after e in
          let g = subst (λ (l : List ℕ). state_of d last ≡ reads (lent_sink true true 0) x t levels (top_of t) (state_of cursor_start l)) w.rows f in
          let y = after-walk t x bounded true true 0 table d last g in
          let r = accepted (sym w.fault ∙ z) in
          let a : Accepted d.at d.items d.visits ≡ read_into t x table =
          ap (λ (n : ℕ). Accepted n d.items d.visits) y.at
          ∙ ap (λ (n : ℕ). Accepted result.at n d.visits) y.items
          ∙ ap (Accepted result.at (length result.kept.items)) y.visits
          ∙ sym r in
          record {
            answer = a;
            filled = y.rows
                ∙ filled result.kept.items table (room-kept (room_in table) x t)
                ∙ ap (λ (u : ValueAnswer). filled_by u table result.kept.items) (sym r);
          }

  -- a walk that picks the item of a number
  module _ (n : ℕ) (c : Cursor) (after : List ℕ) (e : state_of c after ≡ reads (lent_sink false true n) x t levels (top_of t) (state_of cursor_start (0 ∷ 0 ∷ 0 ∷ []))) where
    abbrev whole : St Log
    whole = reading any_room x t

    pub picked-refused : (c.fault ≡ 0 → ⊥) → ◌≡◌ {A = Result ItemValue ℕ} (Err c.fault) (given_by whole n)
    unfolding given_by choose
    picked-refused z =
        let w = after-walk t x bounded false true n (0 ∷ 0 ∷ 0 ∷ []) c after e in
        ap Err w.fault ∙ sym (rw (ne_eqb whole.fault 0 (λ y. z (w.fault ∙ y))))

    pub picked_none : c.fault ≡ 0 → c.items ≤ n → ◌≡◌ {A = Result ItemValue ℕ} (Err 49) (given_by whole n)
    unfolding given_by choose
    picked_none z h =
        let w = after-walk t x bounded false true n (0 ∷ 0 ∷ 0 ∷ []) c after e in
        let l : length whole.kept.items ≤ n = let i = w.items in omega arith in
        sym (rw (eq-eqb whole.fault 0 (sym w.fault ∙ z), le-ltb n (length whole.kept.items) l))

    pub picked-item : c.fault ≡ 0 → n < c.items → ◌≡◌ {A = Result ItemValue ℕ} (Ok (item_of (get_or after 0 0) (get_or after 2 0))) (given_by whole n)
    unfolding given_by choose
    picked-item z h =
        let w = after-walk t x bounded false true n (0 ∷ 0 ∷ 0 ∷ []) c after e in
        let l : n < length whole.kept.items = let i = w.items in omega arith in
        let p : after ≡ row (item_no whole.kept.items n) = w.rows ∙ picked n whole.kept.items l in
        ap (λ (r : List ℕ). Ok (item_of (get_or r 0 0) (get_or r 2 0))) p
        ∙ sym (rw (eq-eqb whole.fault 0 (sym w.fault ∙ z), lt-ltb n (length whole.kept.items) l))
