-- Answers about a header as numbers.
--   header_number     the papers' number of an answer, 0 for a header that was read
--   target_row        a target: its kind, the profile's tag or the reference's index, the index of the first octet and the length of the key, of the
--                    profile's octets or of the type id, and the number of the reference's profiles
--   request_row       a request: 0, minor, order octet, id, response, 0, the target's five, index and length of the operation and of the
--                    principal, number of contexts, place of the body
--   reply_row         a reply: 1, minor, order octet, id, 0, status, nine zeros, number of contexts, place of the body
--   header_values     the row of an answer; "a refusal's other numbers are 0"
--   header_answer_numbers   the number of an answer, then its row
--   numbered_number   the papers' number of an answer about a context or a profile
--   numbered_row      a context or a profile: its id or tag, the index of its octets' first one, their length
--   numbered_values   the row of an answer about one
--   numbered_numbers  the number of an answer about one, then its row
use Rattle.std.specs.Prelude.{ℕ, List, [], ◌∷◌, ◌++◌, replicate, Result, Ok, Err}
use Rattle.cdr.specs.Orders.{order_octet}
use Rattle.cdr_fields.specs.declared.Extent.{Extent}
use Rattle.header_parts.specs.declared.TargetAddress.{TargetAddress}
use Rattle.header_parts.specs.declared.TargetAddress.TheVariants.{Key, Profile, Reference}
use Rattle.header_parts.specs.Parts.{header_refusal_number}
use Rattle.header.specs.declared.RequestHeader.{RequestHeader}
use Rattle.header.specs.declared.ReplyHeader.{ReplyHeader}
use Rattle.header.specs.declared.MessageHeader.TheVariants.{Answered, Called}
use Rattle.header.specs.declared.MessageHeader.{MessageHeader}
use Rattle.header_parts.specs.declared.Refusal.{Refusal}

abbrev pub header_number : Result MessageHeader Refusal → ℕ
header_number (Ok (Called q)) = 0
header_number (Ok (Answered a)) = 0
header_number (Err r) = header_refusal_number r

abbrev pub target_row : TargetAddress → List ℕ
target_row (Key octets) = 0 ∷ 0 ∷ octets.from.0 ∷ octets.length ∷ 0 ∷ []
target_row (Profile tag octets) = 1 ∷ tag ∷ octets.from.0 ∷ octets.length ∷ 0 ∷ []
target_row (Reference index id profiles) = 2 ∷ index ∷ id.from.0 ∷ id.length ∷ profiles.count ∷ []

abbrev pub request_row : RequestHeader → List ℕ
request_row q =
    (0 ∷ q.minor ∷ order_octet q.order ∷ q.id ∷ q.response ∷ 0 ∷ [])
    ++ (target_row q.target
    ++ (q.operation.from.0 ∷ q.operation.length ∷ q.principal.from.0 ∷ q.principal.length ∷ q.contexts.count ∷ q.body ∷ []))

abbrev pub reply_row : ReplyHeader → List ℕ
reply_row a =
    (1 ∷ a.minor ∷ order_octet a.order ∷ a.id ∷ 0 ∷ a.status ∷ []) ++ (replicate 9 0 ++ (a.contexts.count ∷ a.body ∷ []))

abbrev pub header_values : Result MessageHeader Refusal → List ℕ
header_values (Ok (Called q)) = request_row q
header_values (Ok (Answered a)) = reply_row a
header_values (Err r) = replicate 17 0

abbrev pub header_answer_numbers : Result MessageHeader Refusal → List ℕ
header_answer_numbers a = header_number a ∷ header_values a

abbrev pub numbered_number : Result (ℕ × Extent) Refusal → ℕ
numbered_number (Ok (tag, octets)) = 0
numbered_number (Err r) = header_refusal_number r

abbrev pub numbered_row : ℕ → Extent → List ℕ
numbered_row tag octets = tag ∷ octets.from.0 ∷ octets.length ∷ []

abbrev pub numbered_values : Result (ℕ × Extent) Refusal → List ℕ
numbered_values (Ok (tag, octets)) = numbered_row tag octets
numbered_values (Err r) = replicate 3 0

abbrev pub numbered_numbers : Result (ℕ × Extent) Refusal → List ℕ
numbered_numbers a = numbered_number a ∷ numbered_values a
