-- The octets that a word stands for.
--   line_most      the most characters of a line
--   none_word      the word `-`
--   WordOctets    the octets, or that it stands for none
--   is_octets      "hexadecimal of either case", an even number of digits and at least two
--   octets_word    "octets are hexadecimal of either case, `-` for none"
--   lone_octets    the octets that the only word stands for; more words stand for none
--   on_octets      what follows octets that a word stands for
--   octets_answer  what reading them answers, by the room for them
--   octets_into    what the memory then holds: they are stored from its start on where they fit, and the rest is as it was
--   WordRead    both, as the contract says them
use Rattle.std.specs.Prelude.{◌≡◌, List, [], ◌∷◌, Bool, cond, not, ◌&&◌, ℕ, ◌%◌, eqb, ltb, length, Option, Some, None}
use Rattle.std.proofs.lemmas.List.Edits.{sets}
use Rattle.choices.specs.Branch.{choose}
use Rattle.hexline.specs.Decoding.{all_digits, line_octets}
use Rattle.lines.specs.Lines.{hyphen}
use Rattle.ask_words.specs.Words.{same_word}

abbrev pub line_most : ℕ
line_most = 131072

abbrev pub none_word : List ℕ
none_word = hyphen ∷ []

pub data WordOctets : Type 0 where
  are_octets : List ℕ → WordOctets
  not_octets : WordOctets

abbrev pub is_octets : List ℕ → Bool
is_octets word = not (eqb (length word) 0) && (not (eqb (length word % 2) 1) && all_digits word)

unfoldable pub octets_word : List ℕ → WordOctets
octets_word word =
    choose (same_word word none_word) (λ _. are_octets [])
    (λ _. choose (is_octets word) (λ _. are_octets (line_octets word))
    (λ _. not_octets))

abbrev pub lone_octets : List (List ℕ) → WordOctets
lone_octets [] = not_octets
lone_octets (word ∷ []) = octets_word word
lone_octets (word ∷ more ∷ rest) = not_octets

abbrev pub on_octets : {A : Type 0} → WordOctets → A → (List ℕ → A) → A
on_octets (are_octets v) a f = f v
on_octets not_octets a f = a

abbrev pub octets_answer : WordOctets → (room : ℕ) → Option ℕ
octets_answer (are_octets v) room = cond (ltb room (length v)) None (Some (length v))
octets_answer not_octets room = None

abbrev pub octets_into : WordOctets → List ℕ → List ℕ
octets_into (are_octets v) memory = cond (ltb (length memory) (length v)) memory (sets memory 0 v)
octets_into not_octets memory = memory

pub record WordRead (o : WordOctets) (before : List ℕ) (r : Option ℕ) (after : List ℕ) : Type 0 where
  pub answer : r ≡ octets_answer o (length before)
  pub output : after ≡ octets_into o before
