-- A message that is written fits the output: 27 is for every other.
use Rattle.std.specs.Prelude.{Result}
use mathlib.Core.List.{List}
use Prim.Native.Nat.{ℕ, ◌≤◌, zero-le}
use lib.Dec.{ltb}
use lib.ListN.{length}
use borrow.Author.Tests.{ltb-false}
use Rattle.choices.proofs.Choices.{chosen}
use Rattle.join_places.specs.declared.Record.{Record}
use Rattle.join_answers.specs.declared.Refusal.{Refusal}
use Rattle.join_steps.specs.Steps.{LineStep, step_of}
use Rattle.joining.specs.Answers.{message_written, roomed, step_within}

module _ (v : List ℕ) (r : Record) (places : List ℕ) (room : ℕ) where
  fits_by : (step : Result LineStep Refusal) → length (message_written (roomed room step (message_written step r v places)) r v places) ≤ room
  fits_by step =
      chosen (λ (s : Result LineStep Refusal). length (message_written s r v places) ≤ room) (ltb room (length (message_written step r v places))) _ _
      (λ _. zero-le) (ltb-false room (length (message_written step r v places)))

  pub message-fits : length (message_written (step_within v r places room) r v places) ≤ room
  message-fits = fits_by (step_of v r places)
