-- What private functions of this crate and of `joining` ask of each other; nothing that a caller is told rests on these names.
--   Sound       an accepted message, a record that is not refused, and places that have their octets
--   Opening     a first fragment's octets, the place that it opens, and places that have theirs
--   Continues   a fragment's octets, and the place of its open message
use Rattle.std.specs.Prelude.{◌≡◌, false, List, ℕ, ◌≤◌, ◌<◌, length, Ok}
use Rattle.frame.specs.declared.Header.{Header}
use Rattle.frame.specs.Frames.{message_limit, frame_of}
use Rattle.join_places.specs.declared.Record.{Record}
use Rattle.join_places.specs.Places.{places_count, place_size, places_size, length_of, bad_record}
use Rattle.join_message.specs.Message.{id_end}

pub record Sound (v : List ℕ) (h : Header) (r : Record) (places : List ℕ) : Type 0 where
  pub accepted : frame_of v ≡ Ok h
  pub sound : bad_record r (length places) ≡ false

pub record Opening (v places : List ℕ) (i : ℕ) : Type 0 where
  pub place : i < places_count
  pub lent : places_size ≤ length places
  pub short : length v ≤ message_limit

pub record Continues (v : List ℕ) (r : Record) (places : List ℕ) (i : ℕ) : Type 0 where
  pub place : i < places_count
  pub lent : places_size ≤ length places
  pub id : id_end ≤ length v
  pub short : length v ≤ message_limit
  pub least : id_end ≤ length_of r i
  pub most : length_of r i ≤ place_size
