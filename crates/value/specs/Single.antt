-- "A single item asked for by number comes as a signed, unsigned, single or double value."
--   item_number       01's number of an answer, 0 for an item
--   given_in          which case an item is, and its 64 bits
--   given_by          "one not below the item count is 49, after the refusals of reading without 56"
--   item_answer       the answer: an item, or 01's number of the refusal
use Rattle.std.specs.Prelude.{Result, Ok, Err}
use Rattle.choices.specs.{ℕ, List, ltb, eqb, length, choose}
use Rattle.cdr.specs.{Order}
use Rattle.value_items.specs.declared.ItemValue.{ItemValue}
use Rattle.value_items.specs.Items.{item_of, case_and_bits}
use Rattle.value_meaning.specs.{Source, St, Log, any_room, Value.reading_of, Value.under_type, Value.item_no}

abbrev pub item_number : Result ItemValue ℕ → ℕ
item_number (Ok item) = 0
item_number (Err number) = number

abbrev pub given_in : Result ItemValue ℕ → List ℕ → List ℕ
given_in (Ok item) before = case_and_bits item
given_in (Err number) before = before

unfoldable pub given_by : St Log → ℕ → Result ItemValue ℕ
given_by s n =
    choose (eqb s.fault 0)
    (λ _. choose (ltb n (length s.kept.items))
    (λ _. Ok (item_of (item_no s.kept.items n).kind (item_no s.kept.items n).content))
    (λ _. Err 49))
    (λ _. Err s.fault)

unfoldable pub item_answer : List ℕ → Order → Source → ℕ → Result ItemValue ℕ
item_answer v order x n = under_type v order x (λ _. given_by (reading_of any_room v order x) n) Err
