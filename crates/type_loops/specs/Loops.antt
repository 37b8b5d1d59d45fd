-- "Loop: from a kind written at a place one steps to the kinds directly inside it, an indirection counting as its target; from a
-- sequence there is no step. 39 exactly when some kind returns to itself in one or more steps."
-- A kind is a number here, and `step i j` says whether there is a step from kind i to kind j.
--   closure       whether kind i leads to kind j in one or more steps, where those between are below k (Warshall)
--   any_below      whether a test holds of some number below n
--   loop_found     whether some kind below n leads to itself, where those between are below n
--   bit_at         bit j of a number
--   cell          whether rows of bits have a step from kind i to kind j
--   row_with       a row with bit j set
--   with_step      rows and the step from kind i to kind j; as they are where there is no row i or no bit j
use Rattle.std.specs.Prelude.{◌&&◌, ◌||◌, ◌/◌, ◌%◌, ◌^◌}
use Rattle.choices.specs.{Bool, false, cond, List, ℕ, zero, suc, bit_or, ltb, eqb, length, get_or, set}
use Rattle.type_numbers.specs.{kinds_limit}

unfoldable pub closure : (ℕ → ℕ → Bool) → ℕ → ℕ → ℕ → Bool
closure step zero i j = step i j
closure step (suc k) i j = closure step k i j || (closure step k i k && closure step k k j)

unfoldable pub any_below : ℕ → (ℕ → Bool) → Bool
any_below zero f = false
any_below (suc n) f = any_below n f || f n

unfoldable pub loop_found : ℕ → (ℕ → ℕ → Bool) → Bool
loop_found n step = any_below n (λ i. closure step n i i)

unfoldable pub bit_at : ℕ → ℕ → Bool
bit_at x zero = eqb (x % 2) 1
bit_at x (suc j) = bit_at (x / 2) j

abbrev pub cell : List ℕ → ℕ → ℕ → Bool
cell rows i j = bit_at (get_or rows i 0) j

abbrev pub row_with : ℕ → ℕ → ℕ
row_with row j = bit_or row (2 ^ j)

unfoldable pub with_step : List ℕ → ℕ → ℕ → List ℕ
with_step rows i j = cond (ltb i (length rows) && ltb j kinds_limit) (set rows i (row_with (get_or rows i 0) j)) rows
