-- What a line is answered.
--   line_reply     the text that a line is answered, its LF included: about a header, or about a type, a value or a profile
--   LineReplied   what answering a line ensures: where there is room the text is written from `at` on and the items are left in the table,
--                 and where there is none everything is as it was
use Rattle.std.specs.Prelude.{◌≡◌, List, cond, ℕ, ◌+◌, length, Option, Some, None}
use Rattle.std.proofs.lemmas.List.Edits.{sets}
use Rattle.choices.specs.Branch.{choose}
use Rattle.ask_room.specs.Room.{answer_room}
use Rattle.ask_headers.specs.HeaderQuestions.{asks_header}
use Rattle.ask_headers.specs.HeaderReplies.{header_line}
use Rattle.ask_answers.specs.Questions.{question_of}
use Rattle.ask_answers.specs.Replies.{answer_line}
use Rattle.ask_answers.specs.Answers.{table_for}

unfoldable pub line_reply : List ℕ → List ℕ
line_reply line = choose (asks_header line) (λ _. header_line line) (λ _. answer_line line)

pub record LineReplied (line out table : List ℕ) (at : ℕ) (r : Option ℕ) (out_last table_last : List ℕ) : Type 0 where
  pub written : r ≡ cond (answer_room (length table) (length out) at) (Some (at + length (line_reply line))) None
  pub output : out_last ≡ cond (answer_room (length table) (length out) at) (sets out at (line_reply line)) out
  pub tabled : table_last ≡ cond (answer_room (length table) (length out) at) (table_for (question_of line) table) table
