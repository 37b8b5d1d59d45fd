-- What the C interface leaves in what it is lent for a value: numbers and items are filled by an accepted value and kept by a refusal, and the
-- visits are always told.
--   value_at       a value's octets, its order by a flag, and its starting index
--   ReadsValueC   what a call ensures of a value,
--   PicksC        and of an item
use Rattle.std.specs.Prelude.{◌≡◌, List, Bool, ℕ}
use Rattle.cdr.specs.Align.{index_of}
use Rattle.cdr.specs.Orders.{order_of_flag}
use Rattle.value_meaning.specs.Sinks.{Source, source}
use Rattle.value_meaning.specs.Value.{room_in, value_number, visits_in, used_in, value_answer, table_after}
use Rattle.value.specs.Single.{item_number, given_in, item_answer}

abbrev pub value_at : List ℕ → Bool → ℕ → Source
value_at v little start = source v (order_of_flag little) (index_of start)

pub record ReadsValueC (t : List ℕ) (little : Bool) (x : Source) (table numbers : List ℕ) (r : ℕ) (table_last numbers_last : List ℕ)
    (visits_last : ℕ) : Type 0 where
  pub number : r ≡ value_number (value_answer t (order_of_flag little) x (room_in table))
  pub table_is : table_last ≡ table_after t (order_of_flag little) x table
  pub numbers-are : numbers_last ≡ used_in (value_answer t (order_of_flag little) x (room_in table)) numbers
  pub visits-are : visits_last ≡ visits_in (value_answer t (order_of_flag little) x (room_in table))

pub record PicksC (t : List ℕ) (little : Bool) (x : Source) (n : ℕ) (given : List ℕ) (r : ℕ) (given_last : List ℕ) : Type 0 where
  pub number : r ≡ item_number (item_answer t (order_of_flag little) x n)
  pub given_is : given_last ≡ given_in (item_answer t (order_of_flag little) x n) given
