-- Calls one after another, from the characters kept of a line on to the end of an input.
--   QuestionCalls    by the line's memory, the input that is left, and the text that the calls write:
--                    a call on a block that the input left begins with, and the calls after it (ask_next);
--                    a line that the end of input ends, answered as an LF would end it (ask_ended);
--                    the end of input, where no line was begun (ask_last)
--   TakesSome        each of the calls takes some of its block, and is lent an output and a table of these lengths
--   AnsweredThrough  calls, with such outputs and tables, that answer an input to its end, and the text that they write
use Rattle.std.specs.Prelude.{◌≡◌, List, [], ◌∷◌, ◌++◌, ℕ, ◌<◌, take, drop, length}
use Rattle.lines.specs.Lines.{lf}
use Rattle.questions.specs.declared.Progress.{Progress}
use Rattle.questions.specs.Blocks.{QuestionsAnswered}

pub data QuestionCalls : ℕ → List ℕ → List ℕ → List ℕ → Type 0 where
  ask_next : (kept : ℕ) (line out table input block : List ℕ) (from : ℕ) (rest : List ℕ) (r : Progress) (line_last out_last table_last text : List ℕ)
      → input ≡ drop from block ++ rest → QuestionsAnswered block from line out table kept r line_last out_last table_last
      → QuestionCalls r.kept line_last (drop r.next block ++ rest) text → QuestionCalls kept line input (take r.filled out_last ++ text)
  ask_ended : (kept : ℕ) (line : List ℕ) (c : ℕ) (rest text : List ℕ) → take kept line ≡ c ∷ rest
      → QuestionCalls kept line (lf ∷ []) text → QuestionCalls kept line [] text
  ask_last : (kept : ℕ) (line : List ℕ) → take kept line ≡ [] → QuestionCalls kept line [] []

unfoldable pub TakesSome : {kept : ℕ} {line input text : List ℕ} → (outs tables : ℕ) → QuestionCalls kept line input text → Type 0
TakesSome outs tables (ask_next kept line out table input block from rest r line_last out_last table_last text e a c) =
    (from < r.next) × (length out ≡ outs) × (length table ≡ tables) × TakesSome outs tables c
TakesSome outs tables (ask_ended kept line c rest text e d) = TakesSome outs tables d
TakesSome outs tables (ask_last kept line e) = Unit {0}

pub record AnsweredThrough (outs tables kept : ℕ) (line input : List ℕ) : Type 0 where
  pub text : List ℕ
  pub calls : QuestionCalls kept line input text
  pub onward : TakesSome outs tables calls
