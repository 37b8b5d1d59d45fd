-- What answering a line gives, by the test of the room for its answer.
use Rattle.std.specs.Prelude.{Option, Some, None}
use mathlib.Core.Path.{◌≡◌, sym}
use mathlib.Core.Bool.{true, false}
use mathlib.Core.List.{List}
use Prim.Native.Nat.{ℕ, ◌+◌, ◌≤◌}
use native.Mathlib.Omega.{arith}
use lib.ListN.{length}
use lib.Seq.{sets}
use Rattle.cdr_write.specs.Write.{Stored}
use Rattle.cdr_write.proofs.BufferHolds.{stored-upto, stored-fits}
use Rattle.ask_room.specs.Room.{answer_room}
use Rattle.ask_room.proofs.RoomTested.{output-enough}
use Rattle.ask_answers.specs.Questions.{question_of}
use Rattle.ask_answers.specs.Replies.{answer_line}
use Rattle.ask_answers.specs.Answers.{table_for, LineAnswered}
use Rattle.ask_answers.proofs.WordsAnswered.{answer-most}

module _ (line out table : List ℕ) (at : ℕ) where
  pub line-left : false ≡ answer_room (length table) (length out) at → LineAnswered line out table at None out table
  line-left e = record { written = rw (← e); output = rw (← e); tabled = rw (← e) }

  pub line-roomed : true ≡ answer_room (length table) (length out) at
      → LineAnswered line out table at (Some (at + length (answer_line line))) (sets out at (answer_line line)) (table_for (question_of line) table)
  line-roomed e = record { written = rw (← e); output = rw (← e); tabled = rw (← e) }

  pub line-written : true ≡ answer_room (length table) (length out) at → (r : Option ℕ) (out_last table_last : List ℕ)
      → Stored out at (answer_line line) r out_last → table_last ≡ table_for (question_of line) table → LineAnswered line out table at r out_last table_last
  line-written e r out_last table_last s f =
      let fits : at + length (answer_line line) ≤ length out =
      omega (arith, answer-most line, output-enough (length table) (length out) at (sym e))
      in
      record {
        written = rw (← e) (stored-upto out at (answer_line line) r out_last fits s);
        output = rw (← e) (stored-fits out at (answer_line line) r out_last fits s);
        tabled = rw (← e) f;
      }
