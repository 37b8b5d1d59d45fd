-- What the C interface leaves in what it is lent for a line that is joined: the count is filled where a message is written, and kept by a refusal
-- and by a fragment that is held.
--   joined_count   how many octets joining wrote
--   JoinsC        what a call ensures, the number that it returns and all that was lent after it
use Rattle.std.specs.Prelude.{◌≡◌, List, ℕ, Option, Some, None, Result}
use Rattle.join_places.specs.declared.Record.{Record}
use Rattle.join_answers.specs.Answers.{answer_number, output_in}
use Rattle.joining.specs.Answers.{Joins}
use Rattle.c_joining.specs.declared.Numbered.{Numbered}
use Rattle.join_answers.specs.declared.Answer.{Answer}
use Rattle.join_answers.specs.declared.Refusal.{Refusal}

abbrev pub joined_count : Option ℕ → ℕ → ℕ
joined_count (Some n) before = n
joined_count None before = before

pub record JoinsC (v : List ℕ) (before : Record) (places out : List ℕ) (count : ℕ) (r : Numbered) (places_last out_last : List ℕ)
    (count_last : ℕ) : Type 0 where
  pub answer : Result Answer Refusal
  pub joins : Joins v before places out (record { answer = answer; after = r.after }) places_last out_last
  pub number : r.number ≡ answer_number answer
  pub counted : count_last ≡ joined_count (output_in answer) count
