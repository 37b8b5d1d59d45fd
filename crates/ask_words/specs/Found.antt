-- Where the first word of a line ends.
--   first_end     its length, by the words of the line
--   FirstWord    it ends there (decided): it is the only one (only), or others follow its space (more)
use Rattle.std.specs.Prelude.{◌≡◌, List, [], ◌∷◌, ℕ, ◌+◌, ◌<◌, ◌≤◌, length, take, drop}
use Rattle.ask_words.specs.Words.{words}

abbrev pub first_end : List (List ℕ) → ℕ
first_end [] = 0
first_end (word ∷ rest) = length word

pub record FirstWord (line : List ℕ) (r : ℕ) : Type 0 where
  pub within : r ≤ length line
  pub only : length line ≤ r → words line ≡ line ∷ []
  pub more : r < length line → words line ≡ take r line ∷ words (drop (r + 1) line)
  pub decided : r ≡ first_end (words line)
