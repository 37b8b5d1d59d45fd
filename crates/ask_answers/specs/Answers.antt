-- What the answer of a line leaves in the lent memory.
--   table_for       what the table holds after a question: the items in its answer, three numbers each, from its start on, the rest as it was
--   LineAnswered   what answering a line ensures: where there is room the text is written from `at` on and the items are left in the table,
--                  and where there is none everything is as it was
use Rattle.std.specs.Prelude.{◌≡◌, List, cond, ℕ, ◌+◌, length, Option, Some, None}
use Rattle.std.proofs.lemmas.List.Edits.{sets}
use Rattle.value_meaning.specs.Value.{item_rows}
use Rattle.ask_room.specs.Room.{answer_room}
use Rattle.ask_answers.specs.Questions.{Question, question_of}
use Rattle.ask_answers.specs.Replies.{items_in, answer_line}

unfoldable pub table_for : Question → List ℕ → List ℕ
table_for q table = sets table 0 (item_rows (items_in q))

pub record LineAnswered (line out table : List ℕ) (at : ℕ) (r : Option ℕ) (out_last table_last : List ℕ) : Type 0 where
  pub written : r ≡ cond (answer_room (length table) (length out) at) (Some (at + length (answer_line line))) None
  pub output : out_last ≡ cond (answer_room (length table) (length out) at) (sets out at (answer_line line)) out
  pub tabled : table_last ≡ cond (answer_room (length table) (length out) at) (table_for (question_of line) table) table
