-- Frame headers, and the record of a recording's open messages: inputs that a wrong program would answer otherwise.
--   FrameQuestion     what is asked
--   place_found        a place, where there is one
--   found_numbers      1 and a place, or 0 where there is none
--   frame_answered     what the definitions answer
--   full              a record with four open messages
--   frame_samples      the table
--   frames-hold       the statement
use Rattle.std.specs.Prelude.{T, ◌∷◌, Option, Some, None}
use Rattle.choices.specs.{ℕ, List, [], true, replicate}
use Rattle.version.specs.Versions.{major_exists, minor_exists, flags_allowed, type_exists, body_starts_with_id, reads_fragments}
use Rattle.frame.specs.Messages.{version_exists, is_request_or_reply, is_bare, has_request_id}
use Rattle.frame.specs.Frames.{size_allowed, fragment_allowed, eights_allowed, sized_of, message_of, frame_of, frame_numbers}
use Rattle.join_places.specs.declared.Record.{Record}
use Rattle.join_places.specs.Places.{fresh_record, is_open, id_of, length_of, sum_over, first_with, is_open_with, place_of_id, is_at}
use Rattle.join_places.specs.Places.{lowest_free, open_count, closed}
use Rattle.samples.specs.Tables.{paper, bit, Sample, sample, all_answered}
use Rattle.samples.specs.Numbers.{number_answered}

-- `frame`: the octets of a message; the number, then minor, order, more, type, size, whether it has a request id, request id
-- `open_message`: a record and a place; whether a message is open there, its request id and its length
-- `open_place`: a record and a request id; the place of its open message
-- `free_place`: a record; the place that a first fragment opens
-- `open_messages`: a record; how many messages are open
pub data FrameQuestion : Type 0 where
  frame : List ℕ → FrameQuestion
  open_message : Record → ℕ → FrameQuestion
  open_place : Record → ℕ → FrameQuestion
  free_place : Record → FrameQuestion
  open_messages : Record → FrameQuestion

abbrev pub place_found : Option ℕ → List ℕ
place_found (Some i) = i ∷ []
place_found None = []

abbrev pub found_numbers : Option ℕ → List ℕ
found_numbers found = bit (is_at found) ∷ place_found found

unfoldable pub frame_answered : FrameQuestion → List ℕ
unfolding number_answered major_exists minor_exists version_exists flags_allowed type_exists body_starts_with_id reads_fragments is_request_or_reply is_bare
    has_request_id size_allowed fragment_allowed eights_allowed sized_of message_of frame_of sum_over first_with is_open_with place_of_id lowest_free open_count
frame_answered (frame v) = frame_numbers (frame_of v)
frame_answered (open_message r i) = bit (is_open r i) ∷ id_of r i ∷ length_of r i ∷ []
frame_answered (open_place r id) = found_numbers (place_of_id r id)
frame_answered (free_place r) = found_numbers (lowest_free r)
frame_answered (open_messages r) = open_count r ∷ []

abbrev pub full : Record
full = record { ids = 1 ∷ 2 ∷ 3 ∷ 4 ∷ []; lengths = replicate 4 16; opened = replicate 4 true }

unfoldable pub frame_samples : List (Sample FrameQuestion)
frame_samples =
    -- "the more flag, and size + 12 not a multiple of 8": 0 where the size alone is looked at, which is 8
    sample (frame (paper 20 0x47494F5001020200000000080000000700000000)) (21 ∷ replicate 7 0)
    -- flags of 2 say that more follows, and nothing of the order: 17, by a size read little-endian, where they are compared with 0
    ∷ sample (frame (paper 16 0x47494F50010202000000000400000007)) (0 ∷ 2 ∷ 0 ∷ 1 ∷ 0 ∷ 4 ∷ 1 ∷ 7 ∷ [])
    -- flags of 1 say little-endian, and nothing of more fragments: 20 where they are compared with 0
    ∷ sample (frame (paper 12 0x47494F500100010500000000)) (0 ∷ 0 ∷ 1 ∷ 0 ∷ 5 ∷ 0 ∷ 0 ∷ 0 ∷ [])
    -- at first no place has an open message, an id or a length: 12 or 16 where a place starts with a header's length
    ∷ sample (open_message fresh_record 3) (0 ∷ 0 ∷ 0 ∷ [])
    -- the first place is a place: 0 where place 0 is taken for none
    ∷ sample (open_place full 1) (1 ∷ 0 ∷ [])
    -- where four are open, no place is free: 1 and 4 where the count is not looked at
    ∷ sample (free_place full) (0 ∷ [])
    -- a place that is freed does not count: 4 where its id and length still do
    ∷ sample (open_messages (closed full 0)) (3 ∷ [])
    ∷ []

pub frames-hold : T (all_answered frame_answered frame_samples)
unfolding frame_answered frame_samples
frames-hold = tt
