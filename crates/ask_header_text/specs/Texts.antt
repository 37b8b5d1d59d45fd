-- The text of what a message's header says, its LF included; v is the message.
--   number_text       a decimal number, and the character behind it
--   part_text         octets of the message in upper-case hexadecimal, `-` for none, and the character behind them
--   request_head, reply_head
--                    `ok request` and `ok reply`, a space behind them
--   key_mark, profile_mark, reference_mark
--                    the words before a target's parts, a colon behind them
--   target_text       TARGET and a space: `key:OCTETS`, `profile:TAG:OCTETS` or `reference:INDEX:TYPEID:PROFILES`, PROFILES their number
--   request_text      `ok request MINOR ID RESPONSE TARGET OPERATION PRINCIPAL CONTEXTS BODY`
--   reply_header_text  `ok reply MINOR ID STATUS CONTEXTS BODY`
--   refusal_text      `no N`
--   header_answer_text
--                    the text of an answer
use Rattle.std.specs.Prelude.{List, [], ◌∷◌, ◌++◌, ℕ, Result, Ok, Err}
use Rattle.cdr_fields.specs.declared.Extent.{Extent}
use Rattle.cdr_fields.specs.Extents.{extent_octets}
use Rattle.decimals.specs.Decimal.{decimal}
use Rattle.header_parts.specs.declared.Refusal.{Refusal}
use Rattle.header_parts.specs.declared.TargetAddress.{TargetAddress}
use Rattle.header_parts.specs.declared.TargetAddress.TheVariants.{Key, Profile, Reference}
use Rattle.header_parts.specs.Parts.{header_refusal_number}
use Rattle.header.specs.declared.RequestHeader.{RequestHeader}
use Rattle.header.specs.declared.ReplyHeader.{ReplyHeader}
use Rattle.ask_text.specs.Items.{colon, lf}
use Rattle.ask_text.specs.Replies.{space, ok_text, no_text, octets_text}
use Rattle.header.specs.declared.MessageHeader.TheVariants.{Answered, Called}
use Rattle.header.specs.declared.MessageHeader.{MessageHeader}

abbrev pub number_text : ℕ → (behind : ℕ) → List ℕ
number_text x behind = decimal x ++ (behind ∷ [])

abbrev pub part_text : Extent → (behind : ℕ) → List ℕ → List ℕ
part_text part behind v = octets_text (extent_octets v part) behind

abbrev pub request_head : List ℕ
request_head = ok_text (114 ∷ 101 ∷ 113 ∷ 117 ∷ 101 ∷ 115 ∷ 116 ∷ space ∷ [])

abbrev pub reply_head : List ℕ
reply_head = ok_text (114 ∷ 101 ∷ 112 ∷ 108 ∷ 121 ∷ space ∷ [])

abbrev pub key_mark : List ℕ
key_mark = 107 ∷ 101 ∷ 121 ∷ colon ∷ []

abbrev pub profile_mark : List ℕ
profile_mark = 112 ∷ 114 ∷ 111 ∷ 102 ∷ 105 ∷ 108 ∷ 101 ∷ colon ∷ []

abbrev pub reference_mark : List ℕ
reference_mark = 114 ∷ 101 ∷ 102 ∷ 101 ∷ 114 ∷ 101 ∷ 110 ∷ 99 ∷ 101 ∷ colon ∷ []

abbrev pub target_text : TargetAddress → List ℕ → List ℕ
target_text (Key octets) v = key_mark ++ part_text octets space v
target_text (Profile tag octets) v = profile_mark ++ (number_text tag colon ++ part_text octets space v)
target_text (Reference index id profiles) v =
    reference_mark ++ (number_text index colon ++ (part_text id colon v ++ number_text profiles.count space))

unfoldable pub request_text : RequestHeader → List ℕ → List ℕ
request_text q v =
    request_head
    ++ (number_text q.minor space
    ++ (number_text q.id space
    ++ (number_text q.response space
    ++ (target_text q.target v
    ++ (part_text q.operation space v
    ++ (part_text q.principal space v
    ++ (number_text q.contexts.count space
    ++ number_text q.body lf)))))))

unfoldable pub reply_header_text : ReplyHeader → List ℕ
reply_header_text a =
    reply_head
    ++ (number_text a.minor space
    ++ (number_text a.id space
    ++ (number_text a.status space
    ++ (number_text a.contexts.count space
    ++ number_text a.body lf))))

unfoldable pub refusal_text : Refusal → List ℕ
refusal_text why = no_text (number_text (header_refusal_number why) lf)

abbrev pub header_answer_text : Result MessageHeader Refusal → List ℕ → List ℕ
header_answer_text (Ok (Called q)) v = request_text q v
header_answer_text (Ok (Answered a)) v = reply_header_text a
header_answer_text (Err why) v = refusal_text why
