-- The table of the frame header: each number "given exactly when no lower number is, and" its row's test.
--   message_limit       "one message of at most 4,096 octets"
--   size_allowed        19: "size 0 for types 0, 1, 3, 4; under 4 for these in 1.2 and for type 7; not 4 for type 2; not 0 for types
--                      5, 6" is refused; the types above 7 have been refused by 16
--   fragment_allowed    20: "type 7 or the more flag in 1.1; the more flag on types 2, 5, 6" is refused
--   eights_allowed      21: "the more flag, and size + 12 not a multiple of 8" is refused
--   sized_of            17 to 21, then what the header says
--   message_of          12 to 21 of a message of any length
--   frame_of            "An entry that takes a line's octets gives 10 above 4,096", then 12 to 21
--   row_number          the number of each row
--   frame_number        the number of each answer, 0 for an accepted frame
--   id_numbers          1 and the request id, or "other numbers are 0"
--   header_numbers      minor, order, more, type, size, and the request id's two
--   frame_numbers       the number and the values of each answer; "a refusal's other numbers are 0"
use Rattle.std.specs.Prelude.{ℕ, ◌+◌, ◌-◌, ◌%◌, List, [], ◌∷◌, Bool, true, cond, not, ◌&&◌, ◌||◌, ltb, leb, eqb, length, replicate, Option, Some}
use Rattle.std.specs.Prelude.{None, Result, Ok, Err}
use Rattle.cdr.specs.Orders.{order_octet}
use Rattle.frame.specs.declared.Header.{Header}
use Rattle.frame.specs.declared.Refusal.{Refusal}
use Rattle.frame.specs.declared.Refusal.TheVariants.{TooLong, Short, NotGiop, NoSuchVersion, NoSuchFlags, NoSuchType}
use Rattle.frame.specs.declared.Refusal.TheVariants.{SizeAbove, SizeBelow, SizeOfType, NoFragments, NotInEights}
use Rattle.version.specs.Versions.{flags_allowed, type_exists, body_starts_with_id, reads_fragments}
use Rattle.frame.specs.Messages.{version_exists, id_size, is_request_or_reply, is_cancel, is_fragment, is_bare}
use Rattle.frame.specs.Header.{header_size, giop, magic_at, major_at, minor_at, flags_at, message_type_at, more_at, size_at, header_of}

abbrev pub message_limit : ℕ
message_limit = 4096

unfoldable pub size_allowed : ℕ → ℕ → ℕ → Bool
size_allowed minor kind size =
    cond (is_request_or_reply kind) (leb (cond (body_starts_with_id minor) id_size 1) size)
    (cond (is_fragment kind) (leb id_size size)
    (cond (is_cancel kind) (eqb size id_size)
    (eqb size 0)))

unfoldable pub fragment_allowed : ℕ → ℕ → Bool → Bool
fragment_allowed minor kind more =
    cond (reads_fragments minor) (not (more && (is_cancel kind || is_bare kind)))
    (not (is_fragment kind || more))

unfoldable pub eights_allowed : Bool → ℕ → Bool
eights_allowed more size = cond more (eqb ((size + header_size) % 8) 0) true

unfoldable pub sized_of : List ℕ → Result Header Refusal
sized_of v =
    cond (ltb (length v - header_size) (size_at v)) (Err SizeAbove)
    (cond (ltb (size_at v) (length v - header_size)) (Err SizeBelow)
    (cond (not (size_allowed (minor_at v) (message_type_at v) (size_at v))) (Err SizeOfType)
    (cond (not (fragment_allowed (minor_at v) (message_type_at v) (more_at v))) (Err NoFragments)
    (cond (not (eights_allowed (more_at v) (size_at v))) (Err NotInEights)
    (Ok (header_of v))))))

unfoldable pub message_of : List ℕ → Result Header Refusal
message_of v =
    cond (ltb (length v) header_size) (Err Short)
    (cond (not (eqb (magic_at v) giop)) (Err NotGiop)
    (cond (not (version_exists (major_at v) (minor_at v))) (Err NoSuchVersion)
    (cond (not (flags_allowed (minor_at v) (flags_at v))) (Err NoSuchFlags)
    (cond (not (type_exists (minor_at v) (message_type_at v))) (Err NoSuchType)
    (sized_of v)))))

unfoldable pub frame_of : List ℕ → Result Header Refusal
frame_of v = cond (ltb message_limit (length v)) (Err TooLong) (message_of v)

abbrev pub row_number : Refusal → ℕ
row_number TooLong = 10
row_number Short = 12
row_number NotGiop = 13
row_number NoSuchVersion = 14
row_number NoSuchFlags = 15
row_number NoSuchType = 16
row_number SizeAbove = 17
row_number SizeBelow = 18
row_number SizeOfType = 19
row_number NoFragments = 20
row_number NotInEights = 21

abbrev pub frame_number : Result Header Refusal → ℕ
frame_number (Ok h) = 0
frame_number (Err r) = row_number r

abbrev pub id_numbers : Option ℕ → List ℕ
id_numbers (Some x) = 1 ∷ x ∷ []
id_numbers None = 0 ∷ 0 ∷ []

abbrev pub header_numbers : Header → List ℕ
header_numbers h = h.minor ∷ order_octet h.order ∷ cond h.more 1 0 ∷ h.kind ∷ h.size ∷ id_numbers h.id

abbrev pub frame_numbers : Result Header Refusal → List ℕ
frame_numbers (Ok h) = 0 ∷ header_numbers h
frame_numbers (Err r) = row_number r ∷ replicate 7 0
