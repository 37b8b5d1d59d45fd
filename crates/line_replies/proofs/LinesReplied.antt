-- A line is answered by what it asks about: how long the answer is, and what is left in the lent memory.
use Rattle.std.specs.Prelude.{Option, Some, None}
use mathlib.Core.Path.{◌≡◌, refl, sym, ap, ◌∙◌}
use mathlib.Core.Bool.{true, false, not}
use mathlib.Core.List.{List, [], ◌∷◌}
use Prim.Native.Nat.{ℕ, ◌+◌, ◌<◌, ◌≤◌}
use native.Mathlib.Omega.{arith}
use lib.Dec.{eqb, ltb}
use lib.ListN.{length, take}
use lib.Seq.{sets}
use borrow.Author.Tests.{eqb-true}
use Rattle.choices.proofs.Choices.{by-test, and-true, clash}
use Rattle.choices.specs.Branch.{choose}
use Rattle.cdr_write.specs.Write.{Stored}
use Rattle.cdr_write.proofs.BufferHolds.{stored-upto, stored-fits}
use Rattle.value_meaning.specs.Value.{item_rows}
use Rattle.ask_room.specs.Room.{answer_most, answer_room}
use Rattle.ask_room.proofs.RoomTested.{output-enough}
use Rattle.ask_words.specs.Words.{words, same_word}
use Rattle.ask_octets.specs.Octets.{line_most}
use Rattle.ask_headers.specs.HeaderQuestions.{header_word, context_word, target_word, head_word, is_header_word, starts_header, asks_header}
use Rattle.ask_headers.specs.HeaderReplies.{header_line}
use Rattle.ask_headers.proofs.HeaderLines.{line-most, asks-cut, line-cut}
use Rattle.ask_answers.specs.Questions.{no_question, word_question, question_from, question_of}
use Rattle.ask_answers.specs.Replies.{answer_line}
use Rattle.ask_answers.specs.Answers.{table_for, LineAnswered}
use Rattle.ask_answers.proofs.WordsAnswered.{answer-most}
use Rattle.ask_answers.proofs.AnswersCut.{answer-cut}
use Rattle.line_replies.specs.Replies.{line_reply, LineReplied}

-- about a header, or another thing
header-reply : (line : List ℕ) → asks_header line ≡ true → line_reply line ≡ header_line line
unfolding line_reply choose
header-reply line e = rw e

other-reply : (line : List ℕ) → asks_header line ≡ false → line_reply line ≡ answer_line line
unfolding line_reply choose
other-reply line e = rw e

pub reply-most : (line : List ℕ) → length (line_reply line) ≤ answer_most
reply-most line =
    by-test (asks_header line)
    (λ e. rw (header-reply line e) (line-most line))
    (λ e. rw (other-reply line e) (answer-most line))

-- a line is answered by its first 131,073 characters, and by any more
module _ (n : ℕ) (h : line_most < n) where
  reply-cut : (line : List ℕ) → line_reply (take n line) ≡ line_reply line
  reply-cut line =
      by-test (asks_header line)
      (λ e. header-reply (take n line) (asks-cut n h line ∙ e) ∙ line-cut n h line ∙ sym (header-reply line e))
      (λ e. other-reply (take n line) (asks-cut n h line ∙ e) ∙ answer-cut n h line ∙ sym (other-reply line e))

  pub reply-same : (a b : List ℕ) → take n a ≡ take n b → line_reply a ≡ line_reply b
  reply-same a b e = sym (reply-cut a) ∙ ap line_reply e ∙ reply-cut b

-- a line that asks about a header asks nothing else, so that the table is as it was
same-is : (a b : List ℕ) → same_word a b ≡ true → a ≡ b
unfolding same_word
same-is [] [] e = refl
same-is [] (d ∷ ds) e = clash cc
same-is (c ∷ cs) [] e = clash cc
same-is (c ∷ cs) (d ∷ ds) e =
    let p = and-true (eqb c d) (same_word cs ds) e in
    let f = eqb-true c d p.0 in
    let g = same-is cs ds p.1 in
    cc

header-none : (rest : List (List ℕ)) → word_question header_word rest ≡ no_question
unfolding word_question same_word choose
header-none rest = refl

context-none : (rest : List (List ℕ)) → word_question context_word rest ≡ no_question
unfolding word_question same_word choose
context-none rest = refl

target_none : (rest : List (List ℕ)) → word_question target_word rest ≡ no_question
unfolding word_question same_word choose
target_none rest = refl

head-none : (rest : List (List ℕ)) → word_question head_word rest ≡ no_question
unfolding word_question same_word choose
head-none rest = refl

word_none : (word : List ℕ) (rest : List (List ℕ)) → is_header_word word ≡ true → word_question word rest ≡ no_question
unfolding is_header_word
word_none word rest e =
    by-test (same_word word header_word)
    (λ a. rw (same-is word header_word a) (header-none rest))
    (λ a. by-test (same_word word context_word)
    (λ b. rw (same-is word context_word b) (context-none rest))
    (λ b. by-test (same_word word target_word)
    (λ c. rw (same-is word target_word c) (target_none rest))
    (λ c. rw (same-is word head_word (rw (a, b, c) at e)) (head-none rest))))

words-none : (ws : List (List ℕ)) → starts_header ws ≡ true → question_from ws ≡ no_question
words-none [] e = clash cc
words-none (word ∷ rest) e = word_none word rest e

question-none : (line : List ℕ) → asks_header line ≡ true → question_of line ≡ no_question
unfolding asks_header question_of choose
question-none line e =
    let p = and-true (not (ltb line_most (length line))) (starts_header (words line)) e in
    by-test (ltb line_most (length line))
    (λ l. rw l)
    (λ l. rw l (words-none (words line) p.1))

table_kept : (line table : List ℕ) → asks_header line ≡ true → table_for (question_of line) table ≡ table
unfolding table_for item_rows
table_kept line table e = rw (question-none line e)

-- what answering a line gives
module _ (line out table : List ℕ) (at : ℕ) where
  pub reply-roomed : true ≡ answer_room (length table) (length out) at
      → LineReplied line out table at (Some (at + length (line_reply line))) (sets out at (line_reply line)) (table_for (question_of line) table)
  reply-roomed e = record { written = rw (← e); output = rw (← e); tabled = rw (← e) }

  pub reply-left : false ≡ answer_room (length table) (length out) at → LineReplied line out table at None out table
  reply-left e = record { written = rw (← e); output = rw (← e); tabled = rw (← e) }

  pub header-written : asks_header line ≡ true → true ≡ answer_room (length table) (length out) at → (r : Option ℕ) (out_last : List ℕ)
      → Stored out at (header_line line) r out_last → LineReplied line out table at r out_last table
  header-written a e r out_last s =
      let fits : at + length (header_line line) ≤ length out =
      omega (arith, line-most line, output-enough (length table) (length out) at (sym e))
      in
      record {
        written = rw (← e, header-reply line a) (stored-upto out at (header_line line) r out_last fits s);
        output = rw (← e, header-reply line a) (stored-fits out at (header_line line) r out_last fits s);
        tabled = rw (← e) (sym (table_kept line table a));
      }

  pub other-written : asks_header line ≡ false → (r : Option ℕ) (out_last table_last : List ℕ) → LineAnswered line out table at r out_last table_last
      → LineReplied line out table at r out_last table_last
  other-written a r out_last table_last s = record {
    written = rw (other-reply line a) s.written;
    output = rw (other-reply line a) s.output;
    tabled = s.tabled;
  }
