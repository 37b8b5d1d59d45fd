-- What a header that was read tells, whatever the octets of its message are.
--   HeaderParts      the parts of a header of so many octets before its body: each was read, in the order of the layout; the body is behind them and in
--                    the message, and where nothing follows the header it is the message's end
--   RequestWithin    a request's header is that of its frame, and says what its parts say
--   ReplyWithin      the same of a reply's
--   NumberedWithin   a context or a profile is there, and its octets are among the message's
--   CallsWithin      a request that was read has its parts within
--   AnswersWithin    a reply that was read has them
--   ContextsAll      each context of a request whose number is below their count is there, so that 69 is the only refusal left
--   ContextsOfReplies   the same of a reply's
--   ProfilesAll      each profile of the target's reference whose number is below their count is there
use Rattle.std.specs.Prelude.{ℕ, ◌+◌, ◌≤◌, ◌<◌, ◌≡◌, List, length, Result, Ok}
use Rattle.cdr.specs.declared.Index.{Index}
use Rattle.cdr.specs.declared.Order.{Order}
use Rattle.cdr.specs.Limit.{octets_limit}
use Rattle.cdr_fields.specs.declared.Extent.{Extent}
use Rattle.frame.specs.declared.Header.{Header}
use Rattle.frame.specs.Header.{header_size}
use Rattle.frame.specs.Frames.{message_of}
use Rattle.header_layout.specs.Layout.{layout_of}
use Rattle.header_parts.specs.Parts.{body_place}
use Rattle.header.specs.declared.RequestHeader.{RequestHeader}
use Rattle.header.specs.declared.ReplyHeader.{ReplyHeader}
use Rattle.header_reading.specs.Reading.{HeaderFields, no_fields, through, parts_read}
use Rattle.header.specs.Header.{request_said, reply_said, header_start, header_answer}
use Rattle.header.specs.Numbered.{profiles_in, context_of, profile_of_target}
use Rattle.header.specs.declared.MessageHeader.TheVariants.{Answered, Called}
use Rattle.header_parts.specs.declared.Refusal.{Refusal}

pub record HeaderParts (v : List ℕ) (kind : ℕ) (order : Order) (minor body : ℕ) : Type 0 where
  pub limit : length v ≤ octets_limit
  pub frame : Header
  pub accepted : message_of v ≡ Ok frame
  pub kinds : frame.kind ≡ kind
  pub orders : frame.order ≡ order
  pub minors : frame.minor ≡ minor
  pub fields : HeaderFields
  pub end : Index
  pub reads : parts_read v order minor (layout_of kind minor) no_fields header_start ≡ through fields end
  pub place : body_place (length v) end.0 minor ≡ Ok body
  pub behind : end.0 ≤ body
  pub within : body ≤ length v
  pub empty : end.0 ≡ length v → body ≡ length v
  pub begins : header_size ≤ length v

pub record RequestWithin (v : List ℕ) (q : RequestHeader) : Type 0 where
  pub parts : HeaderParts v 0 q.order q.minor q.body
  pub said : request_said q.order q.minor parts.fields q.body ≡ q

pub record ReplyWithin (v : List ℕ) (a : ReplyHeader) : Type 0 where
  pub parts : HeaderParts v 1 a.order a.minor a.body
  pub said : reply_said a.order a.minor parts.fields a.body ≡ a

pub record NumberedWithin (v : List ℕ) (a : Result (ℕ × Extent) Refusal) : Type 0 where
  pub tag : ℕ
  pub octets : Extent
  pub answer : a ≡ Ok (tag, octets)
  pub within : octets.from.0 + octets.length ≤ length v

abbrev pub CallsWithin : Type 0
CallsWithin = (v : List ℕ) (q : RequestHeader) → header_answer v ≡ Ok (Called q) → RequestWithin v q

abbrev pub AnswersWithin : Type 0
AnswersWithin = (v : List ℕ) (a : ReplyHeader) → header_answer v ≡ Ok (Answered a) → ReplyWithin v a

abbrev pub ContextsAll : Type 0
ContextsAll = (v : List ℕ) (q : RequestHeader) → header_answer v ≡ Ok (Called q) → (n : ℕ) → n < q.contexts.count → NumberedWithin v (context_of v n)

abbrev pub ContextsOfReplies : Type 0
ContextsOfReplies = (v : List ℕ) (a : ReplyHeader) → header_answer v ≡ Ok (Answered a) → (n : ℕ) → n < a.contexts.count → NumberedWithin v (context_of v n)

abbrev pub ProfilesAll : Type 0
ProfilesAll =
    (v : List ℕ) (q : RequestHeader) → header_answer v ≡ Ok (Called q) → (n : ℕ) → n < (profiles_in q.target).count → NumberedWithin v (profile_of_target v n)
