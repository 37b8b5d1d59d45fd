-- What the turns of a block promise each other; nothing that a caller is told rests on these names.
--   Goes    characters are left in the block, and the line's memory, the table and the output have room for any line, its items and its answer
--   Onto    one place of the block after another, with the lent memory at each
--   Turned  a turn: its place is further on, and it is the one that the definition gives
use Rattle.std.specs.Prelude.{◌≡◌, List, ◌++◌, ℕ, ◌+◌, ◌<◌, ◌≤◌, length, take, drop}
use Rattle.questions.specs.declared.Progress.{Progress}
use Rattle.ask_room.specs.Room.{table_room, answer_most}
use Rattle.questions.specs.Blocks.{ask_room, AskWork, ask_turn, answers_after}

pub record Goes (block line out table : ℕ) (at : Progress) : Type 0 where
  pub more : at.next < block
  pub whole : ask_room ≤ line
  pub tabled : table_room ≤ table
  pub room : at.filled + answer_most ≤ out

pub record Onto (block : List ℕ) (a : Progress) (line out : List ℕ) (b : Progress) (line_last out_last : List ℕ) : Type 0 where
  pub answered : (rest : List ℕ) → take a.filled out ++ answers_after a.kept line (drop a.next block ++ rest)
      ≡ take b.filled out_last ++ answers_after b.kept line_last (drop b.next block ++ rest)
  pub sized : length out_last ≡ length out
  pub lined : length line_last ≡ length line
  pub within : a.filled ≤ length out → b.filled ≤ length out
  pub unfilled : drop b.filled out_last ≡ drop b.filled out
  pub more : a.filled ≤ b.filled
  pub further : a.next ≤ b.next
  pub moved : a.filled < b.filled → a.next < b.next
  pub inside : a.next ≤ length block → b.next ≤ length block

pub record Turned (block : List ℕ) (a b : AskWork) : Type 0 where
  pub on : a.at.next < b.at.next
  pub onto : Onto block a.at a.line a.out b.at b.line b.out
  pub is : b ≡ ask_turn block a
