-- What private functions promise each other; nothing that a caller is told rests on these names.
--   octets_asked    a question by the octets in the memory and the number that were read
--   numbered_count  how many octets are written
--   NumberedOctetsRead
--                  the words of such a question were read, and the octets are within the memory
use Rattle.std.specs.Prelude.{◌≡◌, List, ℕ, ◌≤◌, length, take, Option, Some, None}
use Rattle.ask_words.specs.Fields.{NumberedFields}
use Rattle.ask_headers.specs.HeaderQuestions.{HeaderQuestion, no_header_question, numbered_question}

abbrev pub octets_asked : Option (ℕ × ℕ) → List ℕ → (List ℕ → ℕ → HeaderQuestion) → HeaderQuestion
octets_asked (Some (count, number)) memory ask = ask (take count memory) number
octets_asked None memory ask = no_header_question

abbrev pub numbered_count : Option (ℕ × ℕ) → ℕ
numbered_count (Some (count, number)) = count
numbered_count None = 0

pub record NumberedOctetsRead (f : NumberedFields) (r : Option (ℕ × ℕ)) (memory : List ℕ) : Type 0 where
  pub asked : (ask : List ℕ → ℕ → HeaderQuestion) → numbered_question ask f ≡ octets_asked r memory ask
  pub within : numbered_count r ≤ length memory
