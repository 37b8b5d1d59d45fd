-- The whole reading: what a single visit does, tied to itself, with the open levels left falling at each entry.
--   reads      a visit of a type with so many levels left
--   Log        all that is told, in the order of reading: visits begun, pieces taken, items finished; `log` the same from its parts
--   logging    the sink that logs; `full` says after how many items there is no room
--   any_room    reading without 56
--   room_for    room for so many items
--   levels     "64 open"
--   at_start    the state before the first octet
--   top_of      what the type's top looks like
--   reading    the reading of a value from its start
use Rattle.std.specs.Prelude.{◌+◌, ◌∷◌, ◌++◌}
use Rattle.choices.specs.{ℕ, List, [], Bool, false, leb, length}
use Rattle.type_kinds.specs.{There, place_of}
use Rattle.type_unions.specs.{Shape}
use Rattle.value_meaning.specs.{Sinks.Source, Sinks.Item, Sinks.Piece, Sinks.Sink, Sinks.St, Sinks.st, Visit.Checked, Opens.node}
use Rattle.value_meaning.specs.{Opens.reads_node}

module _ {A : Type 0} (k : Sink A) (x : Source) (t : Checked) where
  unfoldable pub reads : ℕ → Shape → St A → St A
  reads l p s = reads_node k x l (node t p) s

pub record Log : Type 0 where
  pub visits : ℕ
  pub pieces : List Piece
  pub items : List Item

abbrev pub log : ℕ → List Piece → List Item → Log
log visits pieces items = record { visits = visits; pieces = pieces; items = items }

abbrev pub logging : (ℕ → Bool) → Sink Log
logging full = record {
  visit = λ a. log (a.visits + 1) a.pieces a.items;
  took = λ p a. log a.visits (a.pieces ++ (p ∷ [])) a.items;
  full = λ a. full (length a.items);
  put = λ i a. log a.visits a.pieces (a.items ++ (i ∷ []));
}

abbrev pub any_room : ℕ → Bool
any_room n = false

abbrev pub room_for : ℕ → ℕ → Bool
room_for room n = leb room n

abbrev pub levels : ℕ
levels = 64

abbrev pub at_start : St Log
at_start = st 0 0 0 (log 0 [] [])

abbrev pub top_of : Checked → Shape
top_of t = t.look (There (place_of 0))

unfoldable pub reading : (ℕ → Bool) → Source → Checked → St Log
reading full x t = reads (logging full) x t levels (top_of t) at_start
