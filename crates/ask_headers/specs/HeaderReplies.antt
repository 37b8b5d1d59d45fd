-- What a question about a header is answered.
--   numbered_reply     a context by its id and octets, or a profile by its tag and octets, of a message of n octets, told as a component is
--   head_reply         octets written back by their number, told as those of a rewritten value are
--   head_given         those of them that were written
--   header_reply_text   the text of the answer: "a line that is no question is answered `?`"
--   header_line        the text that a line is answered, its LF included
use Rattle.std.specs.Prelude.{List, [], ℕ, length, take, Result, Ok, Err}
use Rattle.header_parts.specs.Parts.{header_refusal_number}
use Rattle.header.specs.Header.{header_answer}
use Rattle.header.specs.Numbered.{context_of, profile_of_target}
use Rattle.header_head.specs.Head.{head_octets, head_answer}
use Rattle.ask_text.specs.declared.Reply.{Reply}
use Rattle.ask_text.specs.declared.Reply.TheVariants.{Rewritten, Component, Refused, NoQuestion}
use Rattle.ask_text.specs.Replies.{reply_text}
use Rattle.ask_header_text.specs.Texts.{header_answer_text}
use Rattle.ask_headers.specs.HeaderQuestions.{HeaderQuestion, header_asked, context_asked, target_asked, head_asked, no_header_question, header_question_of}
use Rattle.cdr_fields.specs.declared.Extent.{Extent}
use Rattle.header_parts.specs.declared.Refusal.{Refusal}

abbrev pub numbered_reply : Result (ℕ × Extent) Refusal → (n : ℕ) → Reply
numbered_reply (Ok (tag, octets)) n = Component tag octets n
numbered_reply (Err why) n = Refused (header_refusal_number why)

abbrev pub head_reply : Result ℕ Refusal → Reply
head_reply (Ok count) = Rewritten count
head_reply (Err why) = Refused (header_refusal_number why)

abbrev pub head_given : Result ℕ Refusal → List ℕ → List ℕ
head_given (Ok count) xs = take count xs
head_given (Err why) xs = []

abbrev pub header_reply_text : HeaderQuestion → List ℕ
header_reply_text (header_asked v) = header_answer_text (header_answer v) v
header_reply_text (context_asked v number) = reply_text (numbered_reply (context_of v number) (length v)) [] v
header_reply_text (target_asked v number) = reply_text (numbered_reply (profile_of_target v number) (length v)) [] v
header_reply_text (head_asked v room) = reply_text (head_reply (head_answer v room)) [] (head_given (head_answer v room) (head_octets v (header_answer v)))
header_reply_text no_header_question = reply_text NoQuestion [] []

unfoldable pub header_line : List ℕ → List ℕ
header_line line = header_reply_text (header_question_of line)
