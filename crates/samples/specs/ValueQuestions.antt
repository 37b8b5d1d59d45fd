-- What is asked of values and items, and the numbers that the definitions answer.
--   ValueQuestion     what is asked of values
--   from_start         a value's octets, big-endian from index 0
--   filling           a reader that fills the table, big-endian from index 0
--   at_first           the state at the first octet, with a table
--   state_numbers      a state: the next octet, the refusal's number, the number taken last, visits, items, and all that the table holds
--   judged_number      the number of a judgement, 0 for an accepted type
--   plan_numbers       whether there is a plan, its members, and their kinds
--   value_answered     what the definitions answer
use Rattle.std.specs.Prelude.{◌∷◌, ◌++◌, Option, Some, None, Result, Ok, Err, replicate}
use Rattle.choices.specs.{ℕ, List, [], true}
use Rattle.cdr.specs.{Order, Big, index_of, octets}
use Rattle.type_kinds.specs.{Inert, Inner}
use Rattle.type_unions.specs.{Shape}
use Rattle.value_meaning.specs.{Source, source, St}
use Rattle.value_meaning.specs.Sinks.{failed, begun, and_then, repeats, taken, done, number_taken, octets_step}
use Rattle.value_meaning.specs.Visit.{Checked, size_of, content_of, leaf_done, leaf_at, text_done, text_got, text_at, count_done, count_at, enum_done, enum_at}
use Rattle.value_meaning.specs.Visit.{tag_done, tag_at, run_done, run_got, run_at, profile_at, profiles_at, objref_at, inert_at}
use Rattle.value_meaning.specs.Opens.{reads_node, enter_node, own_of, opens, closes, shuts, next, entries}
use Rattle.value_meaning.specs.Reading.{reads, reading}
use Rattle.value_meaning.specs.Value.{room_in, value_answer_numbers, reading_of, value_answer, item_rows, table_after, item_no}
use Rattle.value_cursor.specs.{declared.Mode.Mode, declared.Cursor.Cursor}
use Rattle.value_cursor.specs.Lent.{Lent, row_put}
use Rattle.value_cursor.specs.Walk.{sink_of, source_of, state_of, cursor_start, leaf_visit}
use Rattle.value_plans.specs.declared.Plan.{Plan}
use Rattle.value_plans.specs.Plans.{plan_steps, plan_visit, inert_kind, leaf_kind, plannable, laid, plan_of, most_members}
use Rattle.value_items.specs.Items.{item_of}
use Rattle.value.specs.Single.{item_number, given_in, given_by, item_answer}
use Rattle.value_typed.specs.Typed.{typed_for}
use Rattle.samples.specs.TypeQuestions.{type_answered}

-- `value`: a lent table, and the octets of a TypeCode and of a value, both big-endian from index 0; the number, then octets used, items and
--   visits, and all that the table then holds: kind, place and content of each item, and what was there behind them
-- `item_asked`: an item's number, and the octets of a TypeCode and of a value, as above; the number, then which case it is and its 64 bits
-- `type_judged`: the octets of a TypeCode, its order and the number of a value's octets; the number
-- `size_of_kind`: a primitive's kind; its octets
-- the others answer a state; octets are those of a value, read by `filling`:
--   `started`: a lent table; the state before the first octet
--   `refused`: a refusal's number, a cursor and a table; `visited`: a cursor and a table, a visit begun
--   `inert_visit`: a kind that holds no other, octets and a lent table; what it reads
--   `counted`: a bound, octets and a lent table; what a count reads
--   `leaves`: a leaf's kind, how many, octets and a lent table; what so many visits read
--   `shaped`: a checked type, the levels left, what a type in it looks like, octets and a lent table; what its visit reads
--   `planned`: a plan, how many structs of it, octets and a lent table; what they read
-- `plan`: a checked type, the levels left, a struct's count and the types of its members; its plan
pub data ValueQuestion : Type 0 where
  value : (table type octets : List ℕ) → ValueQuestion
  item_asked : ℕ → (type octets : List ℕ) → ValueQuestion
  type_judged : List ℕ → Order → ℕ → ValueQuestion
  size_of_kind : ℕ → ValueQuestion
  started : List ℕ → ValueQuestion
  refused : ℕ → Cursor → List ℕ → ValueQuestion
  visited : Cursor → List ℕ → ValueQuestion
  inert_visit : Inert → (octets table : List ℕ) → ValueQuestion
  counted : ℕ → (octets table : List ℕ) → ValueQuestion
  leaves : (kind n : ℕ) → (octets table : List ℕ) → ValueQuestion
  shaped : Checked → ℕ → Shape → (octets table : List ℕ) → ValueQuestion
  planned : Plan → ℕ → (octets table : List ℕ) → ValueQuestion
  plan : Checked → (left count : ℕ) → List Inner → ValueQuestion

abbrev pub from_start : List ℕ → Source
from_start x = source x Big (index_of 0)

abbrev pub filling : Mode
filling = record { order = Big; start = index_of 0; limited = true; fill = true; first = 0 }

abbrev pub at_first : List ℕ → St Lent
at_first table = state_of cursor_start table

abbrev pub state_numbers : St Lent → List ℕ
state_numbers s = s.at ∷ s.fault ∷ s.last ∷ s.kept.visits ∷ s.kept.items ∷ s.kept.table

abbrev pub judged_number : Result (Unit {0}) ℕ → ℕ
judged_number (Ok u) = 0
judged_number (Err number) = number

abbrev pub plan_numbers : Option Plan → List ℕ
plan_numbers (Some p) = 1 ∷ p.count ∷ p.kinds
plan_numbers None = 0 ∷ 0 ∷ replicate most_members 0

unfoldable pub value_answered : ValueQuestion → List ℕ
unfolding type_answered and_then repeats taken done number_taken octets_step
    size_of content_of leaf_done leaf_at text_done text_got text_at count_done count_at enum_done enum_at
    tag_done tag_at run_done run_got run_at profile_at profiles_at objref_at inert_at
    reads_node enter_node own_of opens closes shuts next entries reads reading
    reading_of value_answer item_rows table_after item_no row_put plan_steps inert_kind leaf_kind plannable laid plan_of
    item_of given_by item_answer typed_for
value_answered (value table v x) =
    value_answer_numbers (value_answer v Big (from_start x) (room_in table)) ++ table_after v Big (from_start x) table
value_answered (item_asked n v x) = item_number (item_answer v Big (from_start x) n) ∷ given_in (item_answer v Big (from_start x) n) []
value_answered (type_judged v order n) = judged_number (typed_for v order n).judged ∷ []
value_answered (size_of_kind kind) = octets (size_of kind) ∷ []
value_answered (started table) = state_numbers (at_first table)
value_answered (refused n cursor table) = state_numbers (failed n (state_of cursor table))
value_answered (visited cursor table) = state_numbers (begun (sink_of filling) (state_of cursor table))
value_answered (inert_visit i x table) = state_numbers (inert_at (sink_of filling) (source_of filling x) i (at_first table))
value_answered (counted most x table) = state_numbers (count_at (sink_of filling) (source_of filling x) most (at_first table))
value_answered (leaves kind n x table) = state_numbers (repeats (leaf_visit filling x kind) n (at_first table))
value_answered (shaped t left shape x table) = state_numbers (reads (sink_of filling) (source_of filling x) t left shape (at_first table))
value_answered (planned p n x table) = state_numbers (repeats (plan_visit filling x p) n (at_first table))
value_answered (plan t left n types) = plan_numbers (plan_of t left n types)
