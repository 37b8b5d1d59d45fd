-- What a walk over a value leaves: the reading's numbers, and its items in the table, where a machine word holds them.
use mathlib.Core.Path.{◌≡◌, ap, ◌∙◌}
use mathlib.Core.List.{List}
use mathlib.Core.Bool.{Bool}
use Prim.Native.Nat.{ℕ}
use lib.ListN.{length}
use Rattle.value_meaning.specs.Sinks.{Source, St}
use Rattle.value_meaning.specs.Visit.{Checked}
use Rattle.value_meaning.specs.Reading.{reads, levels, top_of, reading}
use Rattle.value_cursor.specs.declared.Cursor.{Cursor}
use Rattle.value_cursor.specs.Lent.{Lent, lent_sink}
use Rattle.value_cursor.specs.Walk.{state_of, cursor_start}
use Rattle.value_leaves.proofs.ItemsInTable.{full_at, stored, Small, walked}
use Rattle.value_typed.specs.Typed.{FitsWords}

-- a cursor and a table after a walk
pub record After (limited fill : Bool) (first : ℕ) (x : Source) (t : Checked) (table : List ℕ) (c : Cursor) (after : List ℕ) : Type 0 where
  pub at : c.at ≡ (reading (full_at limited table) x t).at
  pub fault : c.fault ≡ (reading (full_at limited table) x t).fault
  pub visits : c.visits ≡ (reading (full_at limited table) x t).kept.visits
  pub items : c.items ≡ length (reading (full_at limited table) x t).kept.items
  pub rows : after ≡ stored fill first table (reading (full_at limited table) x t).kept.items

module _ (t : Checked) (x : Source) (bounded : FitsWords t x) where
  pub after-walk : (limited fill : Bool) (first : ℕ) (table : List ℕ) (c : Cursor) (after : List ℕ)
      → state_of c after ≡ reads (lent_sink limited fill first) x t levels (top_of t) (state_of cursor_start table) → After limited fill first x t table c after
  after-walk limited fill first table c after e =
      let small : Small (reading (full_at limited table) x t) = record
      { visits = bounded.visits (full_at limited table); items = bounded.items (full_at limited table) } in
      let b = walked limited fill first x table t small in
      record {
        at = ap (λ (s : St Lent). s.at) e ∙ b.at;
        fault = ap (λ (s : St Lent). s.fault) e ∙ b.fault;
        visits = ap (λ (s : St Lent). s.kept.visits) e ∙ b.visits;
        items = ap (λ (s : St Lent). s.kept.items) e ∙ b.items;
        rows = ap (λ (s : St Lent). s.kept.table) e ∙ b.rows;
      }
