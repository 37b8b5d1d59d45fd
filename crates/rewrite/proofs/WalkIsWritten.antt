-- What a walk leaves is written: its rows are the reading's items, and their octets are the reading's.
use mathlib.Core.Path.{◌≡◌, refl, sym, ap, subst, ◌∙◌}
use mathlib.Core.List.{List, [], ◌∷◌, ◌++◌}
use mathlib.Core.Bool.{true, false}
use Prim.Native.Nat.{ℕ, zero, suc, ◌+◌, ◌*◌, ◌<◌, ◌≤◌}
use native.Mathlib.Omega.{arith}
use lib.ListN.{length, drop, get_or-append}
use lib.Seq.{sets, sets-eq, length-sets}
use borrow.Author.Tests.{eq-eqb, ne_eqb, lt-ltb, le-ltb}
use Rattle.choices.specs.Branch.{choose}
use Rattle.cdr.specs.Number.{Octets}
use Rattle.value_meaning.specs.Sinks.{Source, Item, St}
use Rattle.value_meaning.specs.Visit.{Checked}
use Rattle.value_meaning.specs.Reading.{Log, any_room, reads, levels, top_of, reading}
use Rattle.value_meaning.specs.Value.{item_rows, item_no}
use Rattle.value_cursor.specs.declared.Cursor.{Cursor}
use Rattle.value_cursor.specs.Lent.{lent_sink}
use Rattle.value_cursor.specs.Walk.{state_of, cursor_start}
use Rattle.value_leaves.proofs.ItemsInTable.{filled}
use Rattle.value_typed.proofs.AfterWalk.{After, after-walk}
use Rattle.rewrite_meaning.specs.declared.RewriteAnswer.TheVariants.{Accepted, Refused}
use Rattle.rewrite_meaning.specs.Written.{Target, written}
use Rattle.rewrite_meaning.specs.Rewriting.{rewrite_of}
use Rattle.rewrite.specs.Inner.{tail_of, up_to, reach, row_of, Rows, Readable, RoomForItems, Rewrites}
use Rattle.rewrite.proofs.ItemsWritten.{up-length}
use Rattle.rewrite.proofs.OctetsOfItems.{up_same, Told, reading-told}

-- items as numbers, three each
flat-length : (is : List Item) → length (item_rows is) ≡ length is * 3
unfolding item_rows
flat-length [] = refl
flat-length (i ∷ is) = let e = flat-length is in omega arith

flat-row : (is : List Item) (k : ℕ) → k < length is → row_of (item_rows is) k ≡ item_no is k
unfolding item_rows item_no
flat-row [] k h = absurd (omega arith)
flat-row (i ∷ is) zero h = refl
flat-row (i ∷ is) (suc k) h =
    let a : suc k * 3 ≡ suc (suc (suc (k * 3))) = omega arith in
    let b : suc (suc (suc (k * 3))) + 1 ≡ suc (suc (suc (k * 3 + 1))) = omega arith in
    let c : suc (suc (suc (k * 3))) + 2 ≡ suc (suc (suc (k * 3 + 2))) = omega arith in
    rw (a, b, c) (flat-row is k (omega arith))

-- a row of a table is that of the items that were put into it
same_row : (l m : List ℕ) (k : ℕ) → k * 3 + 2 < length l → row_of (l ++ m) k ≡ row_of l k
same_row l m k h =
    rw (get_or-append l m 0 (k * 3) (omega arith), get_or-append l m 0 (k * 3 + 1) (omega arith), get_or-append l m 0 (k * 3 + 2) h)

table-row : (is : List Item) (table : List ℕ) → length is * 3 ≤ length table → (k : ℕ) → k < length is → row_of (sets table 0 (item_rows is)) k ≡ item_no is k
table-row is table fits k h =
    let n = flat-length is in
    ap (λ (l : List ℕ). row_of l k) (sets-eq (item_rows is) table 0 (omega arith))
    ∙ same_row (item_rows is) (drop (0 + length (item_rows is)) table) k (omega arith)
    ∙ flat-row is k h

-- a walk that fills a table with room for all items
module _ (t : Checked) (x : Source) (to : Target) (ok : Octets x.octets) (readable : Readable t x) (table : List ℕ) (holds : RoomForItems table x.octets)
    (c : Cursor) (after : List ℕ)
    (walked : state_of c after ≡ reads (lent_sink false true 0) x t levels (top_of t) (state_of cursor_start table)) where
  abbrev whole : St Log
  whole = reading any_room x t

  walk-left : After false true 0 x t table c after
  walk-left = after-walk t x readable.bounded false true 0 table c after walked

  abbrev items : List Item
  items = whole.kept.items

  fit : length items * 3 ≤ length table
  fit = let f = readable.few any_room in omega (arith, holds)

  rows_are : after ≡ sets table 0 (item_rows items)
  rows_are = walk-left.rows ∙ filled items table (let f = fit in omega arith)

  module _ (out : List ℕ) where
    pub walk_refused : (c.fault ≡ 0 → ⊥) → Rewrites t x to out (Refused c.fault) out
    unfolding rewrite_of choose
    walk_refused z =
        let e : c.fault ≡ whole.fault = walk-left.fault in
        record { answer = ap Refused e ∙ rw (ne_eqb whole.fault 0 (λ y. z (e ∙ y))); output = refl }

    module _ (accepts : c.fault ≡ 0) where
      fine : whole.fault ≡ 0
      fine = sym walk-left.fault ∙ accepts

      told : Told to any_room x ok whole
      told = reading-told to any_room x ok t readable.plain fine

      row_is : (k : ℕ) → k < length items → row_of after k ≡ item_no items k
      row_is k h = ap (λ (l : List ℕ). row_of l k) rows_are ∙ table-row items table fit k h

      inside : (k : ℕ) → k < length items → (row_of after k).place + tail_of (row_of after k).kind (row_of after k).content ≤ length x.octets
      inside k h = subst (λ (i : Item). i.place + tail_of i.kind i.content ≤ length x.octets) (sym (row_is k h)) (told.inside k h)

      pub walk_rows : Rows x.octets after c.items
      walk_rows =
          let n : c.items ≡ length items = walk-left.items in
          let s = readable.short in
          let f = readable.few any_room in
          let l : length after ≡ length table = ap length rows_are ∙ length-sets table 0 (item_rows items) in
          let g = fit in
          record {
            sized = record {
              few = omega arith;
              there = omega arith;
              tails = λ k h. let i = inside k (omega arith) in omega arith;
            };
            inside = λ k h. inside k (omega arith);
          }

      written_is : up_to to x.octets (row_of after) c.items ≡ written to whole
      written_is =
          ap (up_to to x.octets (row_of after)) walk-left.items
          ∙ up_same to x.octets (row_of after) (item_no items) (length items) row_is
          ∙ sym told.octets

      count-is : (n : ℕ) → n ≡ reach to.start (row_of after) c.items → n ≡ length (written to whole)
      count-is n e =
          e ∙ sym (up-length to x.octets after c.items walk_rows c.items (omega arith)) ∙ ap length written_is

      pub walk-short : (n : ℕ) → n ≡ reach to.start (row_of after) c.items → length out < n → Rewrites t x to out (Refused 57) out
      unfolding rewrite_of choose
      walk-short n e h =
          let m : length out < length (written to whole) = subst (λ (k : ℕ). length out < k) (count-is n e) h in
          record { answer = rw (eq-eqb whole.fault 0 fine, lt-ltb (length out) (length (written to whole)) m); output = refl }

      pub walk-written : (n : ℕ) → n ≡ reach to.start (row_of after) c.items → n ≤ length out
          → (last : List ℕ) → last ≡ sets out 0 (up_to to x.octets (row_of after) c.items) → Rewrites t x to out (Accepted n) last
      unfolding rewrite_of choose
      walk-written n e h last l =
          let m : length (written to whole) ≤ length out = subst (λ (k : ℕ). k ≤ length out) (count-is n e) h in
          record {
            answer = ap Accepted (count-is n e) ∙ rw (eq-eqb whole.fault 0 fine, le-ltb (length out) (length (written to whole)) m);
            output = l ∙ ap (sets out 0) written_is;
          }
