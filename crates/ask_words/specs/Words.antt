-- The words of a line: "Words are separated by one space."
--   words_from              the words of characters, the first of which has been begun
--   words                  the words of a line, one more than it has spaces: a second space makes a word without characters
--   same_word               whether two words have the same characters
--   big_word, little_word    the words `big` and `little`
--   order_word              "ORDER is `big` or `little`"
use Rattle.std.specs.Prelude.{List, [], ◌∷◌, ◌++◌, Bool, true, false, ◌&&◌, ℕ, eqb, Option, Some, None}
use Rattle.choices.specs.Branch.{choose}
use Rattle.cdr.specs.declared.Order.TheVariants.{Big, Little}
use Rattle.cdr.specs.declared.Order.{Order}
pub use Rattle.lines.specs.Lines.{space}

unfoldable pub words_from : List ℕ → List ℕ → List (List ℕ)
words_from begun [] = begun ∷ []
words_from begun (c ∷ rest) = choose (eqb c space) (λ _. begun ∷ words_from [] rest) (λ _. words_from (begun ++ (c ∷ [])) rest)

abbrev pub words : List ℕ → List (List ℕ)
words line = words_from [] line

unfoldable pub same_word : List ℕ → List ℕ → Bool
same_word [] [] = true
same_word [] (d ∷ ds) = false
same_word (c ∷ cs) [] = false
same_word (c ∷ cs) (d ∷ ds) = eqb c d && same_word cs ds

abbrev pub big_word : List ℕ
big_word = 98 ∷ 105 ∷ 103 ∷ []

abbrev pub little_word : List ℕ
little_word = 108 ∷ 105 ∷ 116 ∷ 116 ∷ 108 ∷ 101 ∷ []

unfoldable pub order_word : List ℕ → Option Order
order_word word =
    choose (same_word word big_word) (λ _. (Some Big))
    (λ _. choose (same_word word little_word) (λ _. (Some Little))
    (λ _. None))
