-- What private functions ask of each other; nothing that a caller is told rests on these names.
--   SameLF    a place in the block from which the search for the LF comes to the same place
use Rattle.std.specs.Prelude.{◌≡◌, List, ℕ, ◌+◌, ◌≤◌, length, drop}
use Rattle.lines.specs.Lines.{up_to_lf}

pub record SameLF (block : List ℕ) (from at : ℕ) : Type 0 where
  pub within : at ≤ length block
  pub place : at + length (up_to_lf (drop at block)) ≡ from + length (up_to_lf (drop from block))
