-- What answering a block of the input gives.
--   ask_room            the characters that are kept of a line: one more than a line may have tells an over-long one
--   AskWork            where a call stands in the block and the output, and the lent memory as it is then
--   ask_goes_on          whether characters are left in the block, and there is room for any line, its items and its answer
--   ask_answered        a line's answer is written behind those before it, its items are left in the table, and the next line is begun
--   ask_begun           a line whose LF was not met goes on in the next block
--   ask_by_taken         by whether the LF was met
--   ask_turn            the characters up to the next LF are taken
--   ask_turns           turn by turn, as long as it goes on
--   ask_work            where a call stands
--   ask_start           and where it starts; a `from` beyond the block counts as its end
--   ask_block           a whole call: each turn takes a character, so that as many turns as the block has are enough
--   answers_of          the text that lines are answered: "each output line its answer"
--   answers_after       the text that is still to be written where characters of a line are kept, by the input that is left
--   QuestionsAnswered  what a call ensures
use Rattle.std.specs.Prelude.{◌≡◌, List, [], ◌∷◌, ◌++◌, Bool, ◌&&◌, ℕ, zero, suc, ◌+◌, ◌<◌, ◌≤◌, min, leb, ltb, length, take, drop}
use Rattle.std.proofs.lemmas.List.Edits.{sets}
use Rattle.choices.specs.Branch.{choose}
use Rattle.lines.specs.declared.Taken.{Taken}
use Rattle.lines.specs.Lines.{lines_from, taken_of, kept_into}
use Rattle.questions.specs.declared.Progress.{Progress}
use Rattle.ask_octets.specs.Octets.{line_most}
use Rattle.ask_answers.specs.Questions.{question_of}
use Rattle.ask_answers.specs.Replies.{answer_line}
use Rattle.ask_room.specs.Room.{table_room, answer_most, answer_room}
use Rattle.ask_answers.specs.Answers.{table_for}

abbrev pub ask_room : ℕ
ask_room = line_most + 1

pub record AskWork : Type 0 where
  pub at : Progress
  pub line : List ℕ
  pub out : List ℕ
  pub table : List ℕ

unfoldable pub ask_goes_on : List ℕ → AskWork → Bool
ask_goes_on block w =
    ltb w.at.next (length block)
    && (leb ask_room (length w.line) && answer_room (length w.table) (length w.out) w.at.filled)

abbrev pub ask_answered : (asked : List ℕ) (next : ℕ) (line : List ℕ) → AskWork → AskWork
ask_answered asked next line w =
    record {
      at = record { kept = 0; next = next; filled = w.at.filled + length (answer_line asked) };
      line = line;
      out = sets w.out w.at.filled (answer_line asked);
      table = table_for (question_of asked) w.table;
    }

abbrev pub ask_begun : Taken → List ℕ → AskWork → AskWork
ask_begun t line w =
    record { at = record { kept = t.kept; next = t.next; filled = w.at.filled }; line = line; out = w.out; table = w.table }

abbrev pub ask_by_taken : Taken → List ℕ → AskWork → AskWork
ask_by_taken t line w = choose t.ended (λ _. ask_answered (take t.kept line) t.next line w) (λ _. ask_begun t line w)

unfoldable pub ask_turn : List ℕ → AskWork → AskWork
ask_turn block w =
    ask_by_taken (taken_of block w.at.next (length w.line) w.at.kept) (kept_into block w.at.next w.line w.at.kept) w

unfoldable pub ask_turns : ℕ → List ℕ → AskWork → AskWork
ask_turns zero block w = w
ask_turns (suc n) block w = choose (ask_goes_on block w) (λ _. ask_turns n block (ask_turn block w)) (λ _. w)

abbrev pub ask_work : Progress → List ℕ → List ℕ → List ℕ → AskWork
ask_work at line out table = record { at = at; line = line; out = out; table = table }

abbrev pub ask_start : List ℕ → ℕ → ℕ → Progress
ask_start block from kept = record { kept = kept; next = min from (length block); filled = 0 }

unfoldable pub ask_block : List ℕ → ℕ → List ℕ → List ℕ → List ℕ → ℕ → AskWork
ask_block block from line out table kept = ask_turns (length block) block (ask_work (ask_start block from kept) line out table)

unfoldable pub answers_of : List (List ℕ) → List ℕ
answers_of [] = []
answers_of (line ∷ rest) = answer_line line ++ answers_of rest

abbrev pub answers_after : ℕ → List ℕ → List ℕ → List ℕ
answers_after kept line input = answers_of (lines_from (take kept line) input)

-- how far a call goes is the program's choice, which `decided` says, with all that the lent memory holds afterwards; every choice has the
-- others in common:
--   answered    the text, and what is to be written after it, are what was to be written, whatever follows the block
--   within      the text fits,
--   unfilled    and the output behind it is as it was
--   reached     where room is left for one more answer, in a table of enough numbers, the whole block was taken,
--   onward      and a call that has room for one takes some of it
pub record QuestionsAnswered (block : List ℕ) (from : ℕ) (line out table : List ℕ) (kept : ℕ)
    (r : Progress) (line_last out_last table_last : List ℕ) : Type 0 where
  pub answered : (rest : List ℕ) → answers_after kept line (drop from block ++ rest)
      ≡ take r.filled out_last ++ answers_after r.kept line_last (drop r.next block ++ rest)
  pub within : r.filled ≤ length out
  pub unfilled : drop r.filled out_last ≡ drop r.filled out
  pub reached : ask_room ≤ length line → table_room ≤ length table → r.filled + answer_most ≤ length out → r.next ≡ length block
  pub onward : ask_room ≤ length line → table_room ≤ length table → answer_most ≤ length out → from < length block → from < r.next
  pub decided : ask_work r line_last out_last table_last ≡ ask_block block from line out table kept
