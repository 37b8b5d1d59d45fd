-- Tables of questions with the numbers that answer them, and when a table holds.
--   paper         octets as the paper prints them: so many, and their digits as one number
--   bit           1 for true, 0 for false
--   Sample        a question, and the numbers that answer it
--   sample        the same from its parts
--   same          whether two lists of numbers are equal
--   all_answered   whether the definitions give each question of a table its numbers
use Rattle.std.specs.Prelude.{◌∷◌, ◌&&◌}
use Rattle.choices.specs.{ℕ, List, [], Bool, true, false, cond, eqb}
use Rattle.cdr.specs.{Big, octets_of}

abbrev pub paper : ℕ → ℕ → List ℕ
paper n digits = octets_of Big n digits

abbrev pub bit : Bool → ℕ
bit b = cond b 1 0

pub record Sample (Q : Type 0) : Type 0 where
  pub asked : Q
  pub given : List ℕ

abbrev pub sample : {Q : Type 0} → Q → List ℕ → Sample Q
sample question numbers = record { asked = question; given = numbers }

abbrev pub same : List ℕ → List ℕ → Bool
same [] [] = true
same [] (y ∷ ys) = false
same (x ∷ xs) [] = false
same (x ∷ xs) (y ∷ ys) = eqb x y && same xs ys

abbrev pub all_answered : {Q : Type 0} → (Q → List ℕ) → List (Sample Q) → Bool
all_answered answer [] = true
all_answered answer (s ∷ rest) = same (answer s.asked) s.given && all_answered answer rest
