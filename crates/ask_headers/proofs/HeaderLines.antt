-- How long an answer about a header is, and that characters beyond the most of a line are not seen.
use Rattle.std.specs.Prelude.{Result, Ok, Err}
use mathlib.Core.Path.{◌≡◌, refl}
use mathlib.Core.Bool.{true}
use mathlib.Core.List.{List, []}
use Prim.Native.Nat.{ℕ, ◌<◌, ◌≤◌}
use native.Mathlib.Omega.{arith}
use lib.Dec.{ltb}
use lib.ListN.{length, take, length-append}
use lib.Seq.{length-take-le, take_all}
use borrow.Author.Tests.{lt-ltb, ltb-true, ltb-false}
use Rattle.choices.proofs.Choices.{by-test, clash}
use Rattle.choices.specs.Branch.{choose}
use Rattle.cdr.specs.Limit.{octets_limit}
use Rattle.cdr_fields.specs.Extents.{extent_octets}
use Rattle.header_parts.specs.declared.Refusal.TheVariants.{TooLong}
use Rattle.header_parts.specs.Parts.{header_refusal_number}
use Rattle.header.specs.Header.{header_answer}
use Rattle.header.specs.Numbered.{context_of, profile_of_target}
use Rattle.header_head.specs.Head.{head_answer}
use Rattle.ask_room.specs.Room.{answer_most}
use Rattle.ask_text.specs.declared.Reply.TheVariants.{Component, Refused}
use Rattle.ask_text.specs.Items.{lf}
use Rattle.ask_text.specs.Replies.{octets_text, head_text, reply_text}
use Rattle.ask_text.proofs.OctetsPut.{octets-most}
use Rattle.ask_text.proofs.TextsFit.{head-most, part-most}
use Rattle.ask_header_text.proofs.TextsMost.{header-few}
use Rattle.ask_octets.specs.Octets.{line_most}
use Rattle.ask_headers.specs.HeaderQuestions.{HeaderQuestion, header_asked, context_asked, target_asked, head_asked, no_header_question, header_question_of, asks_header}
use Rattle.ask_headers.specs.HeaderReplies.{numbered_reply, header_reply_text, header_line}
use Rattle.ask_headers.proofs.HeadsGiven.{head_few}
use Rattle.cdr_fields.specs.declared.Extent.{Extent}
use Rattle.header_parts.specs.declared.Refusal.{Refusal}

-- a message of more octets than a message may have is refused
too_long : (v : List ℕ) → ltb octets_limit (length v) ≡ true → header_answer v ≡ Err TooLong
unfolding header_answer choose
too_long v e = rw e

-- what is found is in a message of no more
module _ (v : List ℕ) where
  numbered-few : (a : Result (ℕ × Extent) Refusal) → (ltb octets_limit (length v) ≡ true → a ≡ Err TooLong) → length (reply_text (numbered_reply a (length v)) [] v) ≤ answer_most
  unfolding reply_text
  numbered-few (Ok (tag, part)) over =
      by-test (ltb octets_limit (length v))
      (λ e. let c = over e in clash cc)
      (λ e.
      omega (
        arith,
        ltb-false octets_limit (length v) e,
        length-append (head_text (Component tag part (length v))) (octets_text (extent_octets v part) lf),
        head-most (Component tag part (length v)),
        octets-most (extent_octets v part) lf,
        part-most v part,
      ))
  numbered-few (Err why) over =
      omega (
        arith,
        length-append (head_text (Refused (header_refusal_number why))) [],
        head-most (Refused (header_refusal_number why)),
      )

  context-few : (number : ℕ) → length (header_reply_text (context_asked v number)) ≤ answer_most
  unfolding context_of
  context-few number = numbered-few (context_of v number) (λ e. rw (too_long v e))

  target-few : (number : ℕ) → length (header_reply_text (target_asked v number)) ≤ answer_most
  unfolding profile_of_target
  target-few number = numbered-few (profile_of_target v number) (λ e. rw (too_long v e))

reply-few : (q : HeaderQuestion) → length (header_reply_text q) ≤ answer_most
unfolding reply_text
reply-few (header_asked v) = omega (arith, header-few v)
reply-few (context_asked v number) = context-few v number
reply-few (target_asked v number) = target-few v number
reply-few (head_asked v room) = omega (arith, head_few v room (head_answer v room) refl)
reply-few no_header_question = omega arith

pub line-most : (line : List ℕ) → length (header_line line) ≤ answer_most
unfolding header_line
line-most line = reply-few (header_question_of line)

-- a line is asked by its first 131,073 characters, and by any more
module _ (n : ℕ) (h : line_most < n) where
  pub asks-cut : (line : List ℕ) → asks_header (take n line) ≡ asks_header line
  unfolding asks_header
  asks-cut line =
      by-test (ltb n (length line))
      (λ e.
      let l = ltb-true n (length line) e in
      let k = length-take-le n line (omega arith) in
      rw (lt-ltb line_most (length (take n line)) (omega arith), lt-ltb line_most (length line) (omega arith)))
      (λ e. rw (take_all n line (ltb-false n (length line) e)))

  pub line-cut : (line : List ℕ) → header_line (take n line) ≡ header_line line
  unfolding header_line header_question_of choose
  line-cut line =
      by-test (ltb n (length line))
      (λ e.
      let l = ltb-true n (length line) e in
      let k = length-take-le n line (omega arith) in
      rw (lt-ltb line_most (length (take n line)) (omega arith), lt-ltb line_most (length line) (omega arith)))
      (λ e. rw (take_all n line (ltb-false n (length line) e)))
