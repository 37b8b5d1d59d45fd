-- The header of a Request or Reply: "42 over 16,384 octets, then 12 to 21, then 75 a type other than 0 or 1 or the more flag set", then the
-- parts in octet order and the place of the body; v is a whole or joined message.
--   request_said      what a request's header says
--   reply_said        what a reply's header says
--   header_said       one of them, by whether it is a request
--   on_body           what follows the place of the body, or its refusal
--   header_ended      what was read of all parts, and the place of the body
--   header_start      where a header's parts begin: behind the frame's twelve octets, which count for alignment
--   header_by         the parts in their order
--   has_no_header      75: "a type other than 0 or 1 or the more flag set": no header, or one that is not whole yet
--   header_in         the header of an accepted message
--   on_frame          what follows an accepted frame, or its refusal
--   header_answer     the header of a message
use Rattle.std.specs.Prelude.{ℕ, List, Bool, cond, ◌||◌, ltb, length, Result, Ok, Err}
use Rattle.choices.specs.Branch.{choose}
use Rattle.cdr.specs.declared.Index.{Index}
use Rattle.cdr.specs.declared.Order.{Order}
use Rattle.cdr.specs.Align.{index_of}
use Rattle.cdr.specs.Limit.{octets_limit}
use Rattle.frame.specs.declared.Header.{Header}
use Rattle.frame.specs.Header.{header_size}
use Rattle.frame.specs.Frames.{message_of}
use Rattle.header_layout.specs.declared.HeaderPart.{HeaderPart}
use Rattle.header_layout.specs.Layout.{is_request, layout_of}
use Rattle.header_parts.specs.declared.Refusal.TheVariants.{TooLong, Frame as in_frame, NoHeader}
use Rattle.header_parts.specs.Parts.{body_place}
use Rattle.header.specs.declared.RequestHeader.{RequestHeader}
use Rattle.header.specs.declared.ReplyHeader.{ReplyHeader}
use Rattle.header_reading.specs.Reading.{HeaderFields, no_fields, HeaderUpto, through, stopped, parts_read}
use Rattle.frame.specs.declared.Refusal.{Refusal as FrameRefusal}
use Rattle.header.specs.declared.MessageHeader.TheVariants.{Answered, Called}
use Rattle.header.specs.declared.MessageHeader.{MessageHeader}
use Rattle.header_parts.specs.declared.Refusal.{Refusal}

abbrev pub request_said : Order → ℕ → HeaderFields → ℕ → RequestHeader
request_said order minor f body = record {
  minor = minor;
  order = order;
  id = f.id;
  response = f.response;
  target = f.target;
  operation = f.operation;
  principal = f.principal;
  contexts = f.contexts;
  body = body;
}

abbrev pub reply_said : Order → ℕ → HeaderFields → ℕ → ReplyHeader
reply_said order minor f body = record { minor = minor; order = order; id = f.id; status = f.status; contexts = f.contexts; body = body }

abbrev pub header_said : Bool → Order → ℕ → HeaderFields → ℕ → Result MessageHeader Refusal
header_said request order minor f body = cond request (Ok (Called (request_said order minor f body))) (Ok (Answered (reply_said order minor f body)))

abbrev pub on_body : Result ℕ Refusal → (ℕ → Result MessageHeader Refusal) → Result MessageHeader Refusal
on_body (Ok body) f = f body
on_body (Err r) f = Err r

abbrev pub header_ended : List ℕ → Bool → Order → ℕ → HeaderUpto → Result MessageHeader Refusal
header_ended v request order minor (through f i) = on_body (body_place (length v) i.0 minor) (λ body. header_said request order minor f body)
header_ended v request order minor (stopped r) = Err r

abbrev pub header_start : Index
header_start = index_of header_size

unfoldable pub header_by : List ℕ → Bool → Order → ℕ → List HeaderPart → Result MessageHeader Refusal
header_by v request order minor parts = header_ended v request order minor (parts_read v order minor parts no_fields header_start)

abbrev pub has_no_header : Header → Bool
has_no_header h = h.more || ltb 1 h.kind

unfoldable pub header_in : List ℕ → Header → Result MessageHeader Refusal
header_in v h = cond (has_no_header h) (Err NoHeader) (header_by v (is_request h.kind) h.order h.minor (layout_of h.kind h.minor))

abbrev pub on_frame : Result Header FrameRefusal → (Header → Result MessageHeader Refusal) → Result MessageHeader Refusal
on_frame (Ok h) f = f h
on_frame (Err row) f = Err (in_frame row)

unfoldable pub header_answer : List ℕ → Result MessageHeader Refusal
header_answer v = choose (ltb octets_limit (length v)) (λ _. (Err TooLong)) (λ _. on_frame (message_of v) (λ h. header_in v h))
