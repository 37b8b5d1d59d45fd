-- What a question is answered, and the text of it: "each output line its answer".
--   type_reply     what the check of a type gives
--   value_reply    what the reading of a value gives
--   item_shown     an item by its case and its bits
--   item_reply     what an item of a value gives
--   rewrite_reply  what rewriting a value gives
--   profile_reply  what the reading of a profile body of n octets gives
--   component_reply
--                 what a component of a body of n octets gives
--   room_of        the items that ROOM means
--   reply_to       the answer of a question: "a line that is no question is answered `?`"
--   items_given    the items of an accepted value
--   items_in       the items that stand in the answer
--   octets_given   the octets of a rewritten value
--   body_read      a body that was read
--   body_of        a body of which a component was found
--   answer_octets  the octets that the answer is written from
--   answer_line    the text that a line is answered, its LF included
use Rattle.std.specs.Prelude.{List, [], ℕ, zero, suc, min, length, Result, Ok, Err}
use Rattle.ask_room.specs.Room.{most_items}
use Rattle.value_items.specs.Items.{item_case, bits_of}
use Rattle.profile_parts.specs.Parts.{profile_refusal_number}
use Rattle.profile.specs.Profile.{profile_of, component_of}
use Rattle.value_meaning.specs.declared.ValueAnswer.{ValueAnswer}
use Rattle.value_meaning.specs.declared.ValueAnswer.TheVariants.{Accepted as accepted, Refused as not_accepted}
use Rattle.value_meaning.specs.Sinks.{Item}
use Rattle.value_meaning.specs.Reading.{room_for}
use Rattle.value_meaning.specs.Value.{value_answer, reading_of}
use Rattle.typecode.specs.TypeCode.{type_answer_number, checked_type}
use Rattle.ask_text.specs.declared.Reply.{Reply}
use Rattle.ask_text.specs.declared.Reply.TheVariants.{Typed, Read, Refused, Unread, Signed, Unsigned, Single, Double}
use Rattle.ask_text.specs.declared.Reply.TheVariants.{Rewritten, Profiled, Component, NoQuestion}
use Rattle.ask_text.specs.Replies.{reply_text}
use Rattle.value_items.specs.declared.ItemValue.{ItemValue}
use Rattle.value.specs.Single.{item_answer}
use Rattle.rewrite_meaning.specs.declared.RewriteAnswer.{RewriteAnswer}
use Rattle.rewrite_meaning.specs.declared.RewriteAnswer.TheVariants.{Accepted as written_to, Refused as not_written}
use Rattle.rewrite_meaning.specs.Rewriting.{rewrite_answer, rewritten}
use Rattle.ask_answers.specs.Questions.{Question, type_asked, value_asked, item_asked, rewrite_asked, profile_asked, component_asked, no_question, question_of}
use Rattle.cdr_fields.specs.declared.Extent.{Extent}
use Rattle.profile.specs.declared.Profile.{Profile}
use Rattle.profile_parts.specs.declared.Refusal.{Refusal}
use Rattle.typecode.specs.declared.NoType.TheVariants.{Loop, Refused}
use Rattle.typecode.specs.declared.NoType.{NoType}

abbrev pub type_reply : Result (ℕ × ℕ) NoType → Reply
type_reply (Ok (used, kinds)) = Typed used kinds
type_reply (Err (Refused why)) = Refused (type_answer_number (Err (Refused why)))
type_reply (Err Loop) = Refused (type_answer_number (Err Loop))

abbrev pub value_reply : ValueAnswer → Reply
value_reply (accepted used items visits) = Read used visits items
value_reply (not_accepted number visits) = Unread number visits

abbrev pub item_shown : ℕ → ℕ → Reply
item_shown zero bits = Signed bits
item_shown (suc zero) bits = Unsigned bits
item_shown (suc (suc zero)) bits = Single bits
item_shown (suc (suc (suc n))) bits = Double bits

abbrev pub item_reply : Result ItemValue ℕ → Reply
item_reply (Ok i) = item_shown (item_case i) (bits_of i)
item_reply (Err number) = Refused number

abbrev pub rewrite_reply : RewriteAnswer → Reply
rewrite_reply (written_to count) = Rewritten count
rewrite_reply (not_written number) = Refused number

abbrev pub profile_reply : Result Profile Refusal → (n : ℕ) → Reply
profile_reply (Ok p) n = Profiled p n
profile_reply (Err why) n = Refused (profile_refusal_number why)

abbrev pub component_reply : Result (ℕ × Extent) Refusal → (n : ℕ) → Reply
component_reply (Ok (tag, part)) n = Component tag part n
component_reply (Err why) n = Refused (profile_refusal_number why)

abbrev pub room_of : ℕ → ℕ
room_of room = min room most_items

abbrev pub reply_to : Question → Reply
reply_to (type_asked order v) = type_reply (checked_type v order).answer
reply_to (value_asked order t x room) = value_reply (value_answer t order x (room_of room))
reply_to (item_asked order t x number) = item_reply (item_answer t order x number)
reply_to (rewrite_asked order t x to room) = rewrite_reply (rewrite_answer t order x to room)
reply_to (profile_asked v) = profile_reply (profile_of v) (length v)
reply_to (component_asked v number) = component_reply (component_of v number) (length v)
reply_to no_question = NoQuestion

abbrev pub items_given : ValueAnswer → List Item → List Item
items_given (accepted used items visits) is = is
items_given (not_accepted number visits) is = []

abbrev pub items_in : Question → List Item
items_in (type_asked order v) = []
items_in (value_asked order t x room) =
    items_given (value_answer t order x (room_of room)) (reading_of (room_for (room_of room)) t order x).kept.items
items_in (item_asked order t x number) = []
items_in (rewrite_asked order t x to room) = []
items_in (profile_asked v) = []
items_in (component_asked v number) = []
items_in no_question = []

abbrev pub octets_given : RewriteAnswer → List ℕ → List ℕ
octets_given (written_to count) xs = xs
octets_given (not_written number) xs = []

abbrev pub body_read : Result Profile Refusal → List ℕ → List ℕ
body_read (Ok p) v = v
body_read (Err why) v = []

abbrev pub body_of : Result (ℕ × Extent) Refusal → List ℕ → List ℕ
body_of (Ok (tag, part)) v = v
body_of (Err why) v = []

abbrev pub answer_octets : Question → List ℕ
answer_octets (type_asked order v) = []
answer_octets (value_asked order t x room) = []
answer_octets (item_asked order t x number) = []
answer_octets (rewrite_asked order t x to room) = octets_given (rewrite_answer t order x to room) (rewritten t order x to)
answer_octets (profile_asked v) = body_read (profile_of v) v
answer_octets (component_asked v number) = body_of (component_of v number) v
answer_octets no_question = []

unfoldable pub answer_line : List ℕ → List ℕ
answer_line line = reply_text (reply_to (question_of line)) (items_in (question_of line)) (answer_octets (question_of line))
