-- The lines of a recording, and what one block of it adds to a line.
--   lf, space, hyphen
--              the character that ends a line, the one between two words, and the one that stands for none
--   up_to_lf     the characters before the first LF, or all
--   has_lf      whether there is an LF
--   after_lf    the characters after the first LF, or none
--   last_line   the line that the end of input ends
--   lines_from  the lines of an input, the first of which has been begun
--   lines_of    the lines of a whole input
--   taken_of    what taking characters of a block answers
--   kept_into   what the line's buffer holds afterwards
--   LineTaken  both, as the contract says them
use Rattle.std.specs.Prelude.{◌≡◌, List, [], ◌∷◌, ◌++◌, Bool, true, false, ℕ, ◌+◌, ◌-◌, min, eqb, length, take, drop}
use Rattle.std.proofs.lemmas.List.Edits.{sets}
use Rattle.choices.specs.Branch.{choose}
use Rattle.lines.specs.declared.Taken.{Taken}

abbrev pub lf : ℕ
lf = 10

abbrev pub space : ℕ
space = 32

abbrev pub hyphen : ℕ
hyphen = 45

unfoldable pub up_to_lf : List ℕ → List ℕ
up_to_lf [] = []
up_to_lf (c ∷ rest) = choose (eqb c lf) (λ _. []) (λ _. c ∷ up_to_lf rest)

unfoldable pub has_lf : List ℕ → Bool
has_lf [] = false
has_lf (c ∷ rest) = choose (eqb c lf) (λ _. true) (λ _. has_lf rest)

unfoldable pub after_lf : List ℕ → List ℕ
after_lf [] = []
after_lf (c ∷ rest) = choose (eqb c lf) (λ _. rest) (λ _. after_lf rest)

-- "Nothing follows a final LF": the end of input ends a line only where one has been begun
abbrev pub last_line : List ℕ → List (List ℕ)
last_line [] = []
last_line (c ∷ line) = (c ∷ line) ∷ []

-- a line "ends with LF or the end of input"; `begun` are the characters that the first has already
unfoldable pub lines_from : List ℕ → List ℕ → List (List ℕ)
lines_from begun [] = last_line begun
lines_from begun (c ∷ rest) =
    choose (eqb c lf) (λ _. begun ∷ lines_from [] rest) (λ _. lines_from (begun ++ (c ∷ [])) rest)

abbrev pub lines_of : List ℕ → List (List ℕ)
lines_of input = lines_from [] input

-- from `from` on: the next character is past the line's and its LF, or the block's end; no more are kept than there is room for
unfoldable pub taken_of : List ℕ → ℕ → ℕ → ℕ → Taken
taken_of block from room kept =
    record {
      next = min (from + length (up_to_lf (drop from block)) + 1) (length block);
      kept = min (kept + length (up_to_lf (drop from block))) room;
      ended = has_lf (drop from block);
    }

-- the line's characters after the `kept` ones, as many as fit; "lent memory that an answer doesn't fill keeps its contents"
unfoldable pub kept_into : List ℕ → ℕ → List ℕ → ℕ → List ℕ
kept_into block from line kept = sets line kept (take (length line - kept) (up_to_lf (drop from block)))

pub record LineTaken (block : List ℕ) (from : ℕ) (line : List ℕ) (kept : ℕ) (answer : Taken) (after : List ℕ) : Type 0 where
  pub answered : answer ≡ taken_of block from (length line) kept
  pub filled : after ≡ kept_into block from line kept
