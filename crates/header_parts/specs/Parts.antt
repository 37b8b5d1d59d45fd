-- The parts of a Request or Reply header that have rules of their own, each at an index of the message v, its first octet 0; each gives 70
-- where its octets end.
--   header_refusal_number   the papers' number of a refusal
--   response_from          what a field gives as a response: 71 where the version lacks it
--   response_at            the response boolean, or the flags, an octet
--   status_from            what a field gives as a status: 74 where the version lacks it
--   status_at              the status, an unsigned long
--   header_text_refusal           why a text is refused: 73 "operation string or the reference's type id (as 32)"
--   header_text            what a text gives
--   header_text_at          the operation, or a reference's type id, without its zero
--   body_place             "the place of the body, which for an empty body is the message's end", of a message of so many octets whose header
--                         ends at an index, at most its end: 1.2's "begins at a multiple of 8", and 70 "strictly inside the gap before a body"
use Rattle.std.specs.Prelude.{ℕ, List, cond, ltb, leb, Option, Some, None, Result, Ok, Err}
use Rattle.cdr.specs.declared.Index.{Index}
use Rattle.cdr.specs.declared.Order.{Order}
use Rattle.cdr.specs.declared.Size.TheVariants.{One, Four}
use Rattle.cdr.specs.Align.{aligned}
use Rattle.cdr_fields.specs.Encapsulation.{field_of}
use Rattle.cdr_fields.specs.Extents.{string_at}
use Rattle.frame.specs.Frames.{row_number}
use Rattle.version.specs.Versions.{response_allowed, status_exists, body_in_eights}
use Rattle.header_parts.specs.declared.Refusal.{Refusal}
use Rattle.header_parts.specs.declared.Refusal.TheVariants.{TooLong, Frame, NoHeader, Ends, NoSuchResponse, NoSuchTarget, BadText, NoSuchStatus}
use Rattle.header_parts.specs.declared.Refusal.TheVariants.{NoSuchPart, NoRoom}
use Rattle.cdr_fields.specs.declared.Extent.{Extent}
use Rattle.cdr_fields.specs.declared.StringFault.TheVariants.{BadText as Faulty, NoText}
use Rattle.cdr_fields.specs.declared.StringFault.{StringFault}

abbrev pub header_refusal_number : Refusal → ℕ
header_refusal_number TooLong = 42
header_refusal_number (Frame row) = row_number row
header_refusal_number NoHeader = 75
header_refusal_number Ends = 70
header_refusal_number NoSuchResponse = 71
header_refusal_number NoSuchTarget = 72
header_refusal_number BadText = 73
header_refusal_number NoSuchStatus = 74
header_refusal_number NoSuchPart = 69
header_refusal_number NoRoom = 76

abbrev pub response_from : ℕ → Option (ℕ × Index) → Result (ℕ × Index) Refusal
response_from minor (Some (x, next)) = cond (response_allowed minor x) (Ok (x, next)) (Err NoSuchResponse)
response_from minor None = Err Ends

unfoldable pub response_at : List ℕ → Index → Order → ℕ → Result (ℕ × Index) Refusal
response_at v i order minor = response_from minor (field_of v i One order)

abbrev pub status_from : ℕ → Option (ℕ × Index) → Result (ℕ × Index) Refusal
status_from minor (Some (x, next)) = cond (status_exists minor x) (Ok (x, next)) (Err NoSuchStatus)
status_from minor None = Err Ends

unfoldable pub status_at : List ℕ → Index → Order → ℕ → Result (ℕ × Index) Refusal
status_at v i order minor = status_from minor (field_of v i Four order)

abbrev pub header_text_refusal : StringFault → Refusal
header_text_refusal Faulty = BadText
header_text_refusal NoText = Ends

abbrev pub header_text : Result (Extent × Index) StringFault → Result (Extent × Index) Refusal
header_text (Ok (part, next)) = Ok (part, next)
header_text (Err fault) = Err (header_text_refusal fault)

unfoldable pub header_text_at : List ℕ → Index → Order → Result (Extent × Index) Refusal
header_text_at v i order = header_text (string_at v i order)

unfoldable pub body_place : ℕ → ℕ → ℕ → Result ℕ Refusal
body_place length end minor =
    cond (leb length end) (Ok length)
    (cond (body_in_eights minor) (cond (ltb length (aligned end 8)) (Err Ends) (Ok (aligned end 8)))
    (Ok end))
