-- Hexadecimal digits.
--   within       whether a character stands between two others, both included
--   is_digit      whether a character is a digit
--   digit_value   the number that a digit stands for
--   upper_digit   the upper-case digit that stands for a number below 16
use Rattle.std.specs.Prelude.{ℕ, ◌+◌, ◌-◌, Bool, cond, ◌&&◌, ◌||◌, leb, ltb}

abbrev within : ℕ → ℕ → ℕ → Bool
within first last c = leb first c && leb c last

-- "digits of either case": 0 to 9, A to F, a to f
unfoldable pub is_digit : ℕ → Bool
is_digit c = within 48 57 c || within 65 70 c || within 97 102 c

-- 0 to 9 stand for themselves, A to F and a to f for 10 to 15
unfoldable pub digit_value : ℕ → ℕ
digit_value c = cond (leb c 57) (c - 48) (cond (leb c 70) (c - 65 + 10) (c - 97 + 10))

-- "in upper case": 0 to 9, A to F
unfoldable pub upper_digit : ℕ → ℕ
upper_digit v = cond (ltb v 10) (48 + v) (65 + (v - 10))
