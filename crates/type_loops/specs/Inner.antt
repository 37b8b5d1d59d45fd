-- What private functions ask of each other; nothing that a caller is told rests on these names.
--   through_row     a row after the round for kind k, whose own row is given
--   RoundDone      the rows below n after the round for kind k
--   Closed         the rows below n after the rounds for the kinds below k
--   some_returns    whether some kind below n has a step to itself
use Rattle.std.specs.Prelude.{◌≡◌, ◌<◌}
use Rattle.choices.specs.{Bool, cond, List, ℕ, bit_or, get_or, length}
use Rattle.type_loops.specs.Loops.{closure, any_below, bit_at, cell}
use Rattle.type_numbers.specs.{kinds_limit}

unfoldable pub through_row : ℕ → ℕ → ℕ → ℕ
through_row row k onward = cond (bit_at row k) (bit_or row onward) row

pub record RoundDone (n k : ℕ) (before after : List ℕ) : Type 0 where
  pub long : length after ≡ kinds_limit
  pub all : (i : ℕ) → i < n → get_or after i 0 ≡ through_row (get_or before i 0) k (get_or before k 0)

pub record Closed (n k : ℕ) (before after : List ℕ) : Type 0 where
  pub all : (i j : ℕ) → i < n → cell after i j ≡ closure (cell before) k i j

unfoldable pub some_returns : ℕ → List ℕ → Bool
some_returns n rows = any_below n (λ i. cell rows i i)
