-- Numbers of 64 bits that decimal digits stand for.
--   most_number     the largest number of 64 bits
--   is_numeral      whether a character is a decimal digit
--   all_numerals    whether each character is one
--   value_from      the number that decimal digits stand for, behind the number before them
--   number_upto     a number, unless it is above the largest
--   number_from     what characters behind a number make of it
--   number_word     "one or more digits, leading zeros allowed", and no more than the largest
--   onward         what one character behind a number makes of it
use Rattle.std.specs.Prelude.{Bool, true, ◌&&◌, List, [], ◌∷◌, ℕ, ◌+◌, ◌-◌, ◌*◌, eqb, leb, ltb, length, Option, Some, None}
use Rattle.choices.specs.Branch.{choose}

abbrev pub most_number : ℕ
most_number = 18446744073709551615

abbrev pub is_numeral : ℕ → Bool
is_numeral c = leb 48 c && leb c 57

unfoldable pub all_numerals : List ℕ → Bool
all_numerals [] = true
all_numerals (c ∷ cs) = is_numeral c && all_numerals cs

abbrev pub value_from : ℕ → List ℕ → ℕ
value_from before [] = before
value_from before (c ∷ cs) = value_from (before * 10 + (c - 48)) cs

unfoldable pub number_upto : ℕ → Option ℕ
number_upto x = choose (ltb most_number x) (λ _. None) (λ _. (Some x))

unfoldable pub number_from : ℕ → List ℕ → Option ℕ
number_from before cs = choose (all_numerals cs) (λ _. number_upto (value_from before cs)) (λ _. None)

unfoldable pub number_word : List ℕ → Option ℕ
number_word word = choose (eqb (length word) 0) (λ _. None) (λ _. number_from 0 word)

unfoldable pub onward : ℕ → ℕ → Option ℕ
onward x c = choose (is_numeral c) (λ _. number_upto (x * 10 + (c - 48))) (λ _. None)
