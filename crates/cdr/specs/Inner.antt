-- What private functions promise each other; nothing that a caller is told rests on these names.
--   first_half     a number whose last n octets are the first half of another's 2n, with base 256 ^ n
--   second_half    the same of the second half
--   Loaded        a number that was read from n octets
use Rattle.std.specs.Prelude.{◌≡◌, List, ℕ, ◌/◌, ◌^◌, ◌<◌}
use Rattle.cdr.specs.declared.Order.{Order}
use Rattle.cdr.specs.declared.Order.TheVariants.{Big, Little}
use Rattle.cdr.specs.Number.{number_at}

abbrev pub first_half : Order → ℕ → ℕ → ℕ
first_half Big base x = x / base
first_half Little base x = x

abbrev pub second_half : Order → ℕ → ℕ → ℕ
second_half Big base x = x
second_half Little base x = x / base

pub record Loaded (v : List ℕ) (at n : ℕ) (order : Order) (r : ℕ) : Type 0 where
  pub value : r ≡ number_at v at n order
  pub small : r < 256 ^ n
