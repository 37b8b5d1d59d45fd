-- What a line asks about the header of a message.
--   header_word .. head_word
--                        the words `header`, `context`, `target` and `head`
--   HeaderQuestion       the reading of a message's header; a context of it by number; a profile of the reference that a request is addressed to
--                        by number; all before the body written back, with room for so many octets; or no question about a header
--   header_question       by the words behind `header`: OCTETS, and no more
--   numbered_question     by the words behind `context`, `target` or `head`: about OCTETS, with NUMBER or ROOM
--   header_word_question   by the first word of a line, and those behind it
--   header_question_from   by the words of a line
--   header_question_of     by a line; one of more characters than a line may have is no question
--   is_header_word         whether a word asks about a header
--   starts_header         whether the first of words does
--   asks_header           whether a line of no more characters than a line may have begins with such a word
use Rattle.std.specs.Prelude.{List, [], ◌∷◌, Bool, false, not, ◌&&◌, ◌||◌, ℕ, ltb, length}
use Rattle.choices.specs.Branch.{choose}
use Rattle.ask_words.specs.Words.{words, same_word}
use Rattle.ask_words.specs.Fields.{NumberedFields, numbered, not_numbered, numbered_fields_of}
use Rattle.ask_octets.specs.Octets.{line_most, octets_word, lone_octets, on_octets}

abbrev pub header_word : List ℕ
header_word = 104 ∷ 101 ∷ 97 ∷ 100 ∷ 101 ∷ 114 ∷ []

abbrev pub context_word : List ℕ
context_word = 99 ∷ 111 ∷ 110 ∷ 116 ∷ 101 ∷ 120 ∷ 116 ∷ []

abbrev pub target_word : List ℕ
target_word = 116 ∷ 97 ∷ 114 ∷ 103 ∷ 101 ∷ 116 ∷ []

abbrev pub head_word : List ℕ
head_word = 104 ∷ 101 ∷ 97 ∷ 100 ∷ []

pub data HeaderQuestion : Type 0 where
  header_asked : List ℕ → HeaderQuestion
  context_asked : List ℕ → (number : ℕ) → HeaderQuestion
  target_asked : List ℕ → (number : ℕ) → HeaderQuestion
  head_asked : List ℕ → (room : ℕ) → HeaderQuestion
  no_header_question : HeaderQuestion

abbrev pub header_question : List (List ℕ) → HeaderQuestion
header_question rest = on_octets (lone_octets rest) no_header_question header_asked

abbrev pub numbered_question : (List ℕ → ℕ → HeaderQuestion) → NumberedFields → HeaderQuestion
numbered_question ask (numbered word number) = on_octets (octets_word word) no_header_question (λ v. ask v number)
numbered_question ask not_numbered = no_header_question

unfoldable pub header_word_question : List ℕ → List (List ℕ) → HeaderQuestion
header_word_question word rest =
    choose (same_word word header_word) (λ _. header_question rest)
    (λ _. choose (same_word word context_word) (λ _. numbered_question context_asked (numbered_fields_of rest))
    (λ _. choose (same_word word target_word) (λ _. numbered_question target_asked (numbered_fields_of rest))
    (λ _. choose (same_word word head_word) (λ _. numbered_question head_asked (numbered_fields_of rest))
    (λ _. no_header_question))))

abbrev pub header_question_from : List (List ℕ) → HeaderQuestion
header_question_from [] = no_header_question
header_question_from (word ∷ rest) = header_word_question word rest

unfoldable pub header_question_of : List ℕ → HeaderQuestion
header_question_of line = choose (ltb line_most (length line)) (λ _. no_header_question) (λ _. header_question_from (words line))

unfoldable pub is_header_word : List ℕ → Bool
is_header_word word = same_word word header_word || (same_word word context_word || (same_word word target_word || same_word word head_word))

abbrev pub starts_header : List (List ℕ) → Bool
starts_header [] = false
starts_header (word ∷ rest) = is_header_word word

unfoldable pub asks_header : List ℕ → Bool
asks_header line = not (ltb line_most (length line)) && starts_header (words line)
