-- Headers whose parts and refusals are easily got wrong, with what 02 says of each.
--   HeaderQuestion     what is asked
--   header_answered     what the definitions answer
--   late               a 1.2 request with octets in its gaps and reserved octets: key `KY`, operation `ping`, one context, no body
--   referred           a 1.2 request addressed to a reference of two profiles
--   early              a 1.0 request: one context, key `KY`, operation `ping`, principal `P`, a body of two octets
--   header_samples      the table
--   headers-hold       the statement
use Rattle.std.specs.Prelude.{T, ◌∷◌, ◌++◌}
use Rattle.choices.specs.{ℕ, List, [], replicate}
use Rattle.version.specs.Versions.{reserved_octets, response_allowed, status_exists, body_in_eights}
use Rattle.cdr_fields.specs.Extents.{counted_at}
use Rattle.cdr_fields.specs.Tagged.{tagged_list_at}
use Rattle.cdr_write.specs.Pieces.{wrote, writes}
use Rattle.cdr_pieces.specs.PartPieces.{list_pieces}
use Rattle.frame.specs.Frames.{message_of}
use Rattle.header_layout.specs.Layout.{layout_of}
use Rattle.header_parts.specs.Parts.{response_at, status_at, header_text_at, body_place}
use Rattle.header_parts.specs.Targets.{key_target, profile_target, type_id_then, reference_target, target_at}
use Rattle.header_reading.specs.Reading.{part_read, parts_read}
use Rattle.header.specs.Header.{header_by, header_in, header_answer}
use Rattle.header.specs.Numbered.{numbered_tag, context_of, profile_of_target}
use Rattle.header.specs.Rows.{header_answer_numbers, numbered_numbers}
use Rattle.header_head.specs.HeadPieces.{part_pieces, head_pieces}
use Rattle.header_head.specs.Head.{header_octets, head_written, head_answer, head_after}
use Rattle.samples.specs.Tables.{paper, Sample, sample, all_answered}
use Rattle.samples.specs.Profiles.{profile_answered}

-- `header`: a message; the number, then type, minor, order octet, id, response, status, the target's kind, tag or index, index and length of its
--   octets, profiles, index and length of the operation and of the principal, contexts, place of the body
-- `context`, `profile`: a message, and a number; the number, then id or tag, the index of the first of its octets, and their length
-- `written`: a message, and the room of an output that holds 170 everywhere; what it holds afterwards
pub data HeaderQuestion : Type 0 where
  header : List ℕ → HeaderQuestion
  context : List ℕ → ℕ → HeaderQuestion
  profile : List ℕ → ℕ → HeaderQuestion
  written : List ℕ → ℕ → HeaderQuestion

unfoldable pub header_answered : HeaderQuestion → List ℕ
unfolding profile_answered message_of reserved_octets response_allowed status_exists body_in_eights counted_at tagged_list_at layout_of response_at
    status_at header_text_at body_place key_target profile_target type_id_then reference_target target_at part_read parts_read header_by header_in
    header_answer numbered_tag context_of profile_of_target wrote writes list_pieces part_pieces head_pieces header_octets head_written head_answer
    head_after
header_answered (header v) = header_answer_numbers (header_answer v)
header_answered (context v n) = numbered_numbers (context_of v n)
header_answered (profile v n) = numbered_numbers (profile_of_target v n)
header_answered (written v room) = head_after v (replicate room 170)

abbrev late : List ℕ
late =
    paper 32 0x47494F50010200000000002F0000000903EEEEEE0000EEEE000000024B59EEEE
    ++ paper 27 0x0000000570696E6700EEEEEE0000000100000005000000030A0B0C

abbrev referred : List ℕ
referred =
    paper 32 0x47494F50010200000000004F0000000903EEEEEE0002EEEE0000000700000003
    ++ (paper 32 0x494400EE000000020000000000000001AAEEEEEE8000000000000002BBCCEEEE
    ++ paper 27 0x0000000570696E6700EEEEEE0000000100000005000000030A0B0C)

abbrev early : List ℕ
early =
    paper 32 0x47494F5001000000000000330000000100000005000000030A0B0CEE00000009
    ++ paper 31 0x01EEEEEE000000024B59EEEE0000000570696E6700EEEEEE0000000150AABB

unfoldable pub header_samples : List (Sample HeaderQuestion)
header_samples =
    -- reserved octets and gaps may hold anything; no principal; an empty body at the message's end: 64 where its gap is asked for
    sample (header late) (0 ∷ 0 ∷ 2 ∷ 0 ∷ 9 ∷ 3 ∷ 0 ∷ 0 ∷ 0 ∷ 28 ∷ 2 ∷ 0 ∷ 36 ∷ 4 ∷ 0 ∷ 0 ∷ 1 ∷ 59 ∷ [])
    -- a context's id stands before its length: 3 and 5 where they are exchanged; 69 behind the last
    ∷ sample (context late 0) (0 ∷ 5 ∷ 56 ∷ 3 ∷ [])
    ∷ sample (context late 1) (69 ∷ 0 ∷ 0 ∷ 0 ∷ [])
    -- a key has no profiles: 70 where octets behind it are read
    ∷ sample (profile late 0) (69 ∷ 0 ∷ 0 ∷ 0 ∷ [])
    -- "2 index and reference": the index, the type id without its zero, two profiles
    ∷ sample (header referred) (0 ∷ 0 ∷ 2 ∷ 0 ∷ 9 ∷ 3 ∷ 0 ∷ 2 ∷ 7 ∷ 32 ∷ 2 ∷ 2 ∷ 68 ∷ 4 ∷ 0 ∷ 0 ∷ 1 ∷ 91 ∷ [])
    ∷ sample (profile referred 1) (0 ∷ 2147483648 ∷ 60 ∷ 2 ∷ [])
    -- contexts first, the boolean without reserved octets, the principal last, the body behind it
    ∷ sample (header early) (0 ∷ 0 ∷ 0 ∷ 0 ∷ 9 ∷ 1 ∷ 0 ∷ 0 ∷ 0 ∷ 40 ∷ 2 ∷ 0 ∷ 48 ∷ 4 ∷ 60 ∷ 1 ∷ 1 ∷ 61 ∷ [])
    -- "71 boolean or flags" before the reserved octets: 70 where they are read first
    ∷ sample (header (paper 17 0x47494F5001020000000000050000000102)) (71 ∷ replicate 17 0)
    -- "72 target kind" behind its own octets
    ∷ sample (header (paper 22 0x47494F50010200000000000A0000000100000000FFFF)) (72 ∷ replicate 17 0)
    -- "Status is 0 to 3, in 1.2 0 to 5", before the contexts
    ∷ sample (header (paper 20 0x47494F5001020001000000080000000100000006)) (74 ∷ replicate 17 0)
    ∷ sample (header (paper 24 0x47494F50010200010000000C000000010000000500000000)) (0 ∷ 1 ∷ 2 ∷ 0 ∷ 1 ∷ 0 ∷ 5 ∷ (replicate 9 0 ++ (0 ∷ 24 ∷ [])))
    -- "strictly inside the gap before a body" is 70, at its end an empty body
    ∷ sample (header (late ++ (0 ∷ []))) (18 ∷ replicate 17 0)
    ∷ sample (header (paper 37 0x47494F50010200010000001900000001000000000000000100000007000000010000000000)) (70 ∷ replicate 17 0)
    -- "75 a type other than 0 or 1", behind 12 to 21
    ∷ sample (header (paper 12 0x47494F500100000500000000)) (75 ∷ replicate 17 0)
    ∷ sample (header (paper 12 0x47494F500100000000000000)) (19 ∷ replicate 17 0)
    -- all before the body, gaps and reserved octets zero; 76 leaves the output as it was
    ∷ sample (written (paper 34 0x47494F500100010116000000EEEEEEEE04000000000000000600000068656C6C6F00) 25) (replicate 25 170)
    ∷ sample (written (paper 34 0x47494F50010001011600000000000000040000000000000006000000AAAAAAAAAA00) 25)
    (paper 24 0x47494F500100010116000000000000000400000000000000 ++ (170 ∷ []))
    ∷ sample (written late 59)
    (paper 32 0x47494F50010200000000002F000000090300000000000000000000024B590000
    ++ paper 27 0x0000000570696E67000000000000000100000005000000030A0B0C)
    ∷ sample (written late 58) (replicate 58 170)
    ∷ []

pub headers-hold : T (all_answered header_answered header_samples)
unfolding header_answered header_samples
headers-hold = tt
