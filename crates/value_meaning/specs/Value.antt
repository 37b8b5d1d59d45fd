-- What reading a value answers: 42 "before the type check", then the type's refusal "with the same number", then the value's.
--   room_in          how many items a lent table has room for: an item is three numbers
--   value_number     01's number of an answer, 0 for an accepted value
--   visits_in        the visits that an answer gives: "a refusal gives the visits begun"
--   used_in          octets used and items of an accepted value
--   value_answer_numbers  an answer's number, and octets used, items and visits: a refusal's other numbers are 0
--   reading_answer   "acceptance gives octets used, items and visits"
--   reading_of       the reading under the type that octets give
--   overlong        "42, also for over 16,384 value octets", comes before the type check
--   on_type          what follows an accepted type, and a refused one's number
--   under_type       what follows an accepted type, or a refusal before any visit: 42 first, then the type's
--   value_answer     the answer, where there is room for so many items
--   filled_by        a table that an answer fills or leaves
--   table_after      "lent memory that an answer doesn't fill keeps its contents": the items from the table's start, or as it was
--   item_no          "numbers start at 0": the item of a number; past the last, three zeros
use Rattle.std.specs.Prelude.{◌/◌, ◌∷◌, ◌++◌, ◌||◌, Result, Ok, Err}
use Rattle.choices.specs.{ℕ, zero, suc, List, [], Bool, ltb, eqb, length, sets, choose}
use Rattle.cdr.specs.{Order, octets_limit}
unfoldable pub use Rattle.value_items.specs.Rows.{item_rows}
use Rattle.typecode.specs.{TypeCode.type_answer_number, TypeCode.checked_type}
use Rattle.value_meaning.specs.{declared.ValueAnswer.ValueAnswer, Sinks.Source, Sinks.Item, Sinks.item, Sinks.St, Visit.checked}
use Rattle.value_meaning.specs.{Reading.Log, Reading.room_for, Reading.reading}
use Rattle.value_meaning.specs.declared.ValueAnswer.TheVariants.{Accepted, Refused}
use Rattle.typecode.specs.declared.NoType.TheVariants.{Loop, Refused}
use Rattle.typecode.specs.declared.NoType.{NoType}

abbrev pub room_in : List ℕ → ℕ
room_in table = length table / 3

abbrev pub value_number : ValueAnswer → ℕ
value_number (Accepted used items visits) = 0
value_number (Refused number visits) = number

abbrev pub visits_in : ValueAnswer → ℕ
visits_in (Accepted used items visits) = visits
visits_in (Refused number visits) = visits

abbrev pub used_in : ValueAnswer → List ℕ → List ℕ
used_in (Accepted used items visits) before = used ∷ items ∷ []
used_in (Refused number visits) before = before

abbrev pub value_answer_numbers : ValueAnswer → List ℕ
value_answer_numbers a = value_number a ∷ (used_in a (0 ∷ 0 ∷ []) ++ (visits_in a ∷ []))

abbrev pub reading_answer : St Log → ValueAnswer
reading_answer s =
    choose (eqb s.fault 0)
    (λ _. Accepted s.at (length s.kept.items) s.kept.visits)
    (λ _. Refused s.fault s.kept.visits)

unfoldable pub reading_of : (ℕ → Bool) → List ℕ → Order → Source → St Log
reading_of full v order x = reading full x (checked v (checked_type v order).kinds)

abbrev pub overlong : List ℕ → Source → Bool
overlong v x = ltb octets_limit (length v) || ltb octets_limit (length x.octets)

abbrev pub on_type : {A : Type 0} → Result (ℕ × ℕ) NoType → (Unit {0} → A) → (ℕ → A) → A
on_type (Ok (used, kinds)) f g = f tt
on_type (Err (Refused r)) f g = g (type_answer_number (Err (Refused r)))
on_type (Err Loop) f g = g (type_answer_number (Err Loop))

abbrev pub under_type : {A : Type 0} → List ℕ → Order → Source → (Unit {0} → A) → (ℕ → A) → A
under_type v order x f g = choose (overlong v x) (λ _. g 42) (λ _. on_type (checked_type v order).answer f g)

unfoldable pub value_answer : List ℕ → Order → Source → ℕ → ValueAnswer
value_answer v order x room = under_type v order x (λ _. reading_answer (reading_of (room_for room) v order x)) (λ n. Refused n 0)

abbrev pub filled_by : ValueAnswer → List ℕ → List Item → List ℕ
filled_by (Accepted used items visits) table is = sets table 0 (item_rows is)
filled_by (Refused number visits) table is = table

unfoldable pub table_after : List ℕ → Order → Source → List ℕ → List ℕ
table_after v order x table =
    filled_by (value_answer v order x (room_in table)) table (reading_of (room_for (room_in table)) v order x).kept.items

unfoldable pub item_no : List Item → ℕ → Item
item_no [] n = item 0 0 0
item_no (x ∷ xs) zero = x
item_no (x ∷ xs) (suc n) = item_no xs n
