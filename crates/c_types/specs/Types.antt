-- What the C interface leaves in what it is lent for a type: it is filled by an accepted type, and kept by a refusal.
--   entries_of    a number of each kind, one after the other, and 0 past the last, of the 64 that there can be
--   place_number, start_number, order_number   these numbers: its place, its start and its order octet
--   Entries      a struct that has them of each kind
--   met_after     what is met in an accepted type
--   used_after    the octets used and the kinds written of an accepted type
--   ChecksC      what a call ensures: the number that it returns, and all that was lent after it
use Rattle.std.specs.Prelude.{◌≡◌, List, [], ◌∷◌, map, Bool, ℕ, replicate, Result, Ok, Err}
use Rattle.std.proofs.lemmas.List.Edits.{sets}
use Rattle.cdr.specs.Orders.{order_octet, order_of_flag}
use Rattle.type_numbers.specs.Kinds.{kinds_limit}
use Rattle.type_kinds.specs.declared.Kind.{Kind}
use Rattle.type_list.specs.declared.Met.{Met}
use Rattle.typecode.specs.TypeCode.{checked_type, type_answer_number as type_number}
use Rattle.typecode.specs.declared.NoType.TheVariants.{Loop, Refused}
use Rattle.typecode.specs.declared.NoType.{NoType}

abbrev pub entries_of : (Kind → ℕ) → List Kind → List ℕ
entries_of f ks = sets (replicate kinds_limit 0) 0 (map f ks)

abbrev pub place_number : Kind → ℕ
place_number k = k.place.0

abbrev pub start_number : Kind → ℕ
start_number k = k.start.0

abbrev pub order_number : Kind → ℕ
order_number k = order_octet k.order

pub record Entries (ks : List Kind) (m : Met) : Type 0 where
  pub places : m.places ≡ entries_of place_number ks
  pub starts : m.starts ≡ entries_of start_number ks
  pub orders : m.orders ≡ entries_of order_number ks

abbrev pub met_after : Result (ℕ × ℕ) NoType → List ℕ → List ℕ → List ℕ
met_after (Ok (used, kinds)) met before = met
met_after (Err (Refused r)) met before = before
met_after (Err Loop) met before = before

abbrev pub used_after : Result (ℕ × ℕ) NoType → List ℕ → List ℕ
used_after (Ok (used, kinds)) before = used ∷ kinds ∷ []
used_after (Err (Refused r)) before = before
used_after (Err Loop) before = before

pub record ChecksC (v : List ℕ) (little : Bool) (places starts orders numbers : List ℕ) (r : ℕ)
    (places_last starts_last orders_last numbers_last : List ℕ) : Type 0 where
  pub number : r ≡ type_number (checked_type v (order_of_flag little)).answer
  pub places-are : places_last
      ≡ met_after (checked_type v (order_of_flag little)).answer (entries_of place_number (checked_type v (order_of_flag little)).kinds) places
  pub starts-are : starts_last
      ≡ met_after (checked_type v (order_of_flag little)).answer (entries_of start_number (checked_type v (order_of_flag little)).kinds) starts
  pub orders-are : orders_last
      ≡ met_after (checked_type v (order_of_flag little)).answer (entries_of order_number (checked_type v (order_of_flag little)).kinds) orders
  pub numbers-are : numbers_last ≡ used_after (checked_type v (order_of_flag little)).answer numbers
