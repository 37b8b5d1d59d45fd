-- Characters put into memory that has room for them, as those who compose a text promise each other.
--   Put    characters stored from `at` on, the rest as it was, and where they end
use Rattle.std.specs.Prelude.{◌≡◌, List, ℕ, ◌+◌, length}
use Rattle.std.proofs.lemmas.List.Edits.{sets}

pub record Put (out : List ℕ) (at : ℕ) (xs : List ℕ) (r : ℕ) (last : List ℕ) : Type 0 where
  pub end : r ≡ at + length xs
  pub contents : last ≡ sets out at xs
