-- The sink of the readers: visits and items are counted in machine words, and items may go into a lent table, those from a number on.
--   Lent       visits begun, items finished, and the lent table
--   lent_of     the same from its parts
--   set3       three numbers of a table
--   row_put     the table with item i, where the items from `first` on go into it and there is room
--   lent_sink   the sink: `limited` says that no more items are taken than the table has room for, `fill` that they go into it
use Rattle.std.specs.Prelude.{◌+◌, ◌-◌, ◌*◌, ◌%◌, ◌^◌, ◌&&◌}
use Rattle.choices.specs.{ℕ, List, Bool, cond, ltb, leb, set}
use Rattle.value_meaning.specs.{Item, Sink, Value.room_in}

pub record Lent : Type 0 where
  pub visits : ℕ
  pub items : ℕ
  pub table : List ℕ

abbrev pub lent_of : ℕ → ℕ → List ℕ → Lent
lent_of visits items table = record { visits = visits; items = items; table = table }

abbrev pub set3 : List ℕ → ℕ → ℕ → ℕ → ℕ → List ℕ
set3 table j a b c = set (set (set table j a) (j + 1) b) (j + 2) c

unfoldable pub row_put : ℕ → ℕ → Item → List ℕ → List ℕ
row_put first i x table =
    cond (ltb i first) table
    (cond (leb (room_in table) (i - first)) table
    (set3 table ((i - first) * 3) x.kind x.place x.content))

abbrev pub lent_sink : Bool → Bool → ℕ → Sink Lent
lent_sink limited fill first = record {
  visit = λ a. lent_of ((a.visits + 1) % 2 ^ 64) a.items a.table;
  took = λ p a. a;
  full = λ a. limited && leb (room_in a.table) a.items;
  put = λ x a. lent_of a.visits ((a.items + 1) % 2 ^ 64) (cond fill (row_put first a.items x a.table) a.table);
}
