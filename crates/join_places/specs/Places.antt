-- "The record of one recording has four places for open messages."
--   places_count    how many places there are
--   place_size      the octets of a place
--   place_start     where the octets of a place start in the lent memory of them all
--   places_size     the octets of all places
--   least_length    the least octets of an open message: its header and its request id
--   fresh_record    a record with nothing open
--   is_open         whether a place has an open message,
--   id_of           and its request id
--   length_of       and length
--   held_in         the octets that a place has of its open message
--   sum_over        the sum of a number over the first so many places
--   some_with       whether one of the first so many places has a property
--   or_else         what was found, and where nothing was another place
--   first_with      the first of so many places that has a property
--   is_open_with     whether a place has the open message of a request id
--   place_of_id      the place of the open message of a request id
--   is_at           whether there is one
--   IsPlace        that it is one of the places
--   lowest_free     "the lowest free one first"; nowhere where all are open
--   open_at         1 for a place that has an open message, and 0 for one that has none
--   open_count      "messages open"
--   open_length     the length of a place's open message, and 0 where it has none
--   open_lengths    the octets held of all open messages
--   both_open       whether two places have open messages of the same id
--   open_before     whether an earlier place has an open message of the same id as a place
--   id_open_twice    28: "one id open twice",
--   place_short     "a place of under 16,384 octets",
--   length_wrong    "an open length under 16 or over 16,384", of one place
--   some_length_wrong    and of one of them all
--   bad_record      28
--   closed         the record with a place freed,
--   opened         with a place opened for a request id,
--   lengthened     and with the length of its message changed
use Rattle.std.specs.Prelude.{ℕ, zero, suc, ◌+◌, ◌*◌, ◌<◌, List, Bool, true, false, cond, not, ◌&&◌, ◌||◌, ltb, eqb, get_or, take, drop, set}
use Rattle.std.specs.Prelude.{replicate, Option, Some, None}
use Rattle.join_places.specs.declared.Record.{Record}

abbrev pub places_count : ℕ
places_count = 4

abbrev pub place_size : ℕ
place_size = 16384

abbrev pub place_start : ℕ → ℕ
place_start i = i * place_size

abbrev pub places_size : ℕ
places_size = places_count * place_size

abbrev pub least_length : ℕ
least_length = 16

abbrev pub fresh_record : Record
fresh_record =
    record { ids = replicate places_count 0; lengths = replicate places_count 0; opened = replicate places_count false }

abbrev pub is_open : Record → ℕ → Bool
is_open r i = get_or r.opened i false

abbrev pub id_of : Record → ℕ → ℕ
id_of r i = get_or r.ids i 0

abbrev pub length_of : Record → ℕ → ℕ
length_of r i = get_or r.lengths i 0

abbrev pub held_in : Record → List ℕ → ℕ → List ℕ
held_in r places i = take (length_of r i) (drop (place_start i) places)

unfoldable pub sum_over : (ℕ → ℕ) → ℕ → ℕ
sum_over f zero = 0
sum_over f (suc n) = sum_over f n + f n

unfoldable pub some_with : (ℕ → Bool) → ℕ → Bool
some_with p zero = false
some_with p (suc n) = some_with p n || p n

abbrev pub or_else : Option ℕ → Option ℕ → Option ℕ
or_else (Some i) other = Some i
or_else None other = other

unfoldable pub first_with : (ℕ → Bool) → ℕ → Option ℕ
first_with p zero = None
first_with p (suc n) = or_else (first_with p n) (cond (p n) (Some n) None)

unfoldable pub is_open_with : Record → ℕ → ℕ → Bool
is_open_with r id i = is_open r i && eqb (id_of r i) id

unfoldable pub place_of_id : Record → ℕ → Option ℕ
place_of_id r id = first_with (is_open_with r id) places_count

abbrev pub is_at : Option ℕ → Bool
is_at (Some i) = true
is_at None = false

abbrev pub IsPlace : Option ℕ → Type 0
IsPlace (Some i) = i < places_count
IsPlace None = Unit {0}

unfoldable pub lowest_free : Record → Option ℕ
lowest_free r = first_with (λ i. not (is_open r i)) places_count

abbrev pub open_at : Record → ℕ → ℕ
open_at r i = cond (is_open r i) 1 0

unfoldable pub open_count : Record → ℕ
open_count r = sum_over (open_at r) places_count

abbrev pub open_length : Record → ℕ → ℕ
open_length r i = cond (is_open r i) (length_of r i) 0

unfoldable pub open_lengths : Record → ℕ
open_lengths r = sum_over (open_length r) places_count

unfoldable pub both_open : Record → ℕ → ℕ → Bool
both_open r i j = is_open r i && is_open r j && eqb (id_of r i) (id_of r j)

unfoldable pub open_before : Record → ℕ → Bool
open_before r i = some_with (both_open r i) i

unfoldable pub id_open_twice : Record → Bool
id_open_twice r = some_with (open_before r) places_count

-- the places stand one behind the other, so the last is too short where any is
abbrev pub place_short : ℕ → Bool
place_short lent = ltb lent places_size

unfoldable pub length_wrong : Record → ℕ → Bool
length_wrong r i = is_open r i && (ltb (length_of r i) least_length || ltb place_size (length_of r i))

unfoldable pub some_length_wrong : Record → Bool
some_length_wrong r = some_with (length_wrong r) places_count

unfoldable pub bad_record : Record → ℕ → Bool
bad_record r lent = id_open_twice r || place_short lent || some_length_wrong r

-- "which frees that place": its id and length stay, and mean nothing until it is opened again
abbrev pub closed : Record → ℕ → Record
closed r i = record { ids = r.ids; lengths = r.lengths; opened = set r.opened i false }

abbrev pub opened : Record → ℕ → ℕ → ℕ → Record
opened r i id n = record { ids = set r.ids i id; lengths = set r.lengths i n; opened = set r.opened i true }

abbrev pub lengthened : Record → ℕ → ℕ → Record
lengthened r i n = record { ids = r.ids; lengths = set r.lengths i n; opened = r.opened }
