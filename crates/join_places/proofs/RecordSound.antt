-- What holds of a record that is not refused, and of the lowest free place.
use Rattle.std.specs.Prelude.{Option, Some, None}
use mathlib.Core.Path.{◌≡◌, refl}
use mathlib.Core.Bool.{Bool, true, false, not, ◌&&◌, ◌||◌}
use Prim.Native.Nat.{ℕ, ◌≤◌, ◌<◌}
use lib.Dec.{ltb}
use borrow.Author.Tests.{ltb-false}
use Rattle.choices.proofs.Choices.{clash, neither}
use Rattle.join_places.specs.declared.Record.{Record}
use Rattle.join_places.specs.Places.{places_count, place_size, places_size, least_length, is_open, length_of, is_at, IsPlace}
use Rattle.join_places.specs.Places.{first_with, lowest_free, id_open_twice, place_short, length_wrong, some_length_wrong, bad_record}
use Rattle.join_places.proofs.FoldsChanged.{some-none, FirstOf, first-is}

pub is-at : (f : Option ℕ) → is_at f ≡ false → f ≡ None
is-at (Some i) e = clash cc
is-at None e = refl

-- a place that is free is one of the places
pub free-within : (r : Record) → IsPlace (lowest_free r)
unfolding lowest_free
free-within r = by_first (first_with free places_count) (first-is free places_count)
  where
    free : ℕ → Bool
    free i = not (is_open r i)

    by_first : (f : Option ℕ) → FirstOf free places_count f → IsPlace f
    by_first (Some i) f = f.place
    by_first None f = tt

-- of a record that is not refused, the places have their octets and the open lengths are in their range
pub sound-lent : (r : Record) (lent : ℕ) → bad_record r lent ≡ false → places_size ≤ lent
unfolding bad_record
sound-lent r lent e =
    ltb-false lent places_size (neither (id_open_twice r) (place_short lent) (neither (id_open_twice r || place_short lent) (some_length_wrong r) e).0).1

length-right : (o : Bool) (n : ℕ) → o ≡ true → (o && (ltb n least_length || ltb place_size n)) ≡ false → (least_length ≤ n) × (n ≤ place_size)
length-right true n e f =
    let t = neither (ltb n least_length) (ltb place_size n) f in
    (ltb-false n least_length t.0, ltb-false place_size n t.1)
length-right false n e f = clash cc

pub sound-length : (r : Record) (lent i : ℕ) → i < places_count → is_open r i ≡ true → bad_record r lent ≡ false
    → (least_length ≤ length_of r i) × (length_of r i ≤ place_size)
unfolding bad_record some_length_wrong length_wrong
sound-length r lent i h o e =
    let right = (neither (id_open_twice r || place_short lent) (some_length_wrong r) e).1 in
    length-right (is_open r i) (length_of r i) o (some-none (length_wrong r) places_count right i h)
