-- What private functions promise each other; nothing that a caller is told rests on these names.
--   read_into   what reading into a table answers
--   ReadAs     an answer and a table that are those of a reading
use Rattle.std.specs.Prelude.{◌≡◌}
use Rattle.choices.specs.{List, ℕ}
use Rattle.value_meaning.specs.{Source, room_for, reading, declared.ValueAnswer.ValueAnswer, Visit.Checked, Value.room_in, Value.reading_answer}
use Rattle.value_meaning.specs.{Value.filled_by}

abbrev pub read_into : Checked → Source → List ℕ → ValueAnswer
read_into t x table = reading_answer (reading (room_for (room_in table)) x t)

pub record ReadAs (t : Checked) (x : Source) (table : List ℕ) (r : ValueAnswer) (after : List ℕ) : Type 0 where
  pub answer : r ≡ read_into t x table
  pub filled : after ≡ filled_by (read_into t x table) table (reading (room_for (room_in table)) x t).kept.items
