-- What private functions promise each other; nothing that a caller is told rests on these names.
--   Puts    characters are put from `at` on, if there is room for them
use Rattle.std.specs.Prelude.{List, ℕ, ◌+◌, ◌≤◌, length}
use Rattle.decimals.specs.Puts.{Put}

pub record Puts (out : List ℕ) (at : ℕ) (xs : List ℕ) (r : ℕ) (last : List ℕ) : Type 0 where
  pub put : at + length xs ≤ length out → Put out at xs r last
