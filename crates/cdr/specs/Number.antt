-- Numbers of any size in octets, in either byte order.
--   Octets          numbers below 256, as every slice of octets has
--   in_order         octets that stand in a byte order, the least significant first; and back
--   little_number    the number that octets give, the least significant first
--   little_octets    the n octets of a number, the least significant first
--   number_of        the number that octets give in a byte order
--   octets_of        the n octets of a number in a byte order
--   number_at        the number in n octets from `at` on
--   read_of          the number of a size that starts at or after `at`, in octets whose first has the index `start`
--   sign_extended    the two's complement of n octets as one of eight
use Rattle.std.specs.Prelude.{ℕ, zero, suc, ◌+◌, ◌-◌, ◌*◌, ◌/◌, ◌%◌, ◌^◌, ◌<◌, List, [], ◌∷◌, reverse, cond, ltb, length, get_or, take, drop, Option}
use Rattle.std.specs.Prelude.{Some, None}
use Rattle.cdr.specs.declared.Order.{Order}
use Rattle.cdr.specs.declared.Order.TheVariants.{Big, Little}
use Rattle.cdr.specs.declared.Size.{Size}
use Rattle.cdr.specs.declared.Index.{Index}
use Rattle.cdr.specs.Align.{octets, behind_gap}

abbrev pub Octets : List ℕ → Type 0
Octets v = (k : ℕ) → get_or v k 0 < 256

abbrev pub in_order : Order → List ℕ → List ℕ
in_order Little l = l
in_order Big l = reverse l

unfoldable pub little_number : List ℕ → ℕ
little_number [] = 0
little_number (x ∷ l) = little_number l * 256 + x

unfoldable pub little_octets : ℕ → ℕ → List ℕ
little_octets zero x = []
little_octets (suc n) x = x % 256 ∷ little_octets n (x / 256)

unfoldable pub number_of : Order → List ℕ → ℕ
number_of order l = little_number (in_order order l)

unfoldable pub octets_of : Order → ℕ → ℕ → List ℕ
octets_of order n x = in_order order (little_octets n x)

unfoldable pub number_at : List ℕ → ℕ → ℕ → Order → ℕ
number_at v at n order = number_of order (take n (drop at v))

unfoldable pub read_of : List ℕ → Index → ℕ → Size → Order → Option (ℕ × ℕ)
read_of v start at size order =
    cond (ltb (length v) (behind_gap start at (octets size) + octets size))
    None
    (Some (behind_gap start at (octets size), number_at v (behind_gap start at (octets size)) (octets size) order))

unfoldable pub sign_extended : ℕ → ℕ → ℕ
sign_extended n x = cond (ltb (x % 256 ^ n * 2) (256 ^ n)) (x % 256 ^ n) (x % 256 ^ n + (2 ^ 64 - 256 ^ n))
