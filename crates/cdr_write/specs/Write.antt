-- Octets stored in a lent buffer, where they fit.
--   written_of    whether n octets fit from `at` on, and where they end
--   holding      what the buffer then holds: the octets stored from `at` on, one after the other, and the rest as it was
--   Stored       both, as the contract of a writer that was lent `out` says them
use Rattle.std.specs.Prelude.{ℕ, ◌+◌, List, cond, length, ◌≡◌, Option, Some, None}
use Rattle.std.proofs.lemmas.List.Edits.{sets}
use Rattle.cdr.specs.Limit.{fits}

abbrev pub written_of : List ℕ → ℕ → ℕ → Option ℕ
written_of out at n = cond (fits (length out) at n) (Some (at + n)) None

abbrev pub holding : Option ℕ → List ℕ → ℕ → List ℕ → List ℕ
holding None out at xs = out
holding (Some e) out at xs = sets out at xs

pub record Stored (out : List ℕ) (at : ℕ) (xs : List ℕ) (r : Option ℕ) (last : List ℕ) : Type 0 where
  pub answer : r ≡ written_of out at (length xs)
  pub contents : last ≡ holding r out at xs
