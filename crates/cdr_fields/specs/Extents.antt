-- Octets of an encapsulation by where they stand: v are its octets alone, its own index 0 first.
--   extent          octets by their first one's index and their number
--   no_extent        no octets
--   extent_octets    the octets of an extent, as far as they are there
--   extent_start     the first one's index; of an extent that begins past the end, the end
--   PartOf          "the caller's own octets": r holds an extent's octets, and they lie in the memory that s points at, as far behind its first
--                   octet as the extent begins
--   string_upto      what a string gives with the index after its final zero
--   string_at        a length and a text without a bound, and the index after it; the text's extent is without its final zero
--   counted_upto     what counted octets give with the index after them
--   counted_at       a count and so many octets, and the index after them
use Rattle.std.specs.Prelude.{ℕ, ◌+◌, min, ◌≡◌, List, length, take, drop, Option, Some, None, Result, Ok, Err}
use Rattle.std.specs.Borrow.{Bor}
use Rattle.cdr.specs.declared.Index.{Index}
use Rattle.cdr.specs.declared.Order.{Order}
use Rattle.cdr.specs.Align.{index_of}
use Rattle.cdr_fields.specs.declared.Extent.{Extent}
use Rattle.cdr_fields.specs.Encapsulation.{start, string_of, counted_of}
use Rattle.cdr_fields.specs.declared.StringFault.{StringFault}

abbrev pub extent : Index → ℕ → Extent
extent from n = record { from = from; length = n }

abbrev pub no_extent : Extent
no_extent = extent start 0

unfoldable pub extent_octets : List ℕ → Extent → List ℕ
extent_octets v part = take part.length (drop part.from.0 v)

unfoldable pub extent_start : List ℕ → Extent → ℕ
extent_start v part = min part.from.0 (length v)

pub record PartOf (s : Bor (List ℕ)) (part : Extent) (r : Bor (List ℕ)) : Type 0 where
  pub octets : r.now ≡ extent_octets s.now part
  pub block : r.ref_ptr.0 ≡ s.ref_ptr.0
  pub place : r.ref_ptr.1 ≡ s.ref_ptr.1 + extent_start s.now part

abbrev pub string_upto : Result (Index × ℕ) StringFault → Result (Extent × Index) StringFault
string_upto (Ok (from, n)) = Ok (extent from n, index_of (from.0 + n + 1))
string_upto (Err fault) = Err fault

unfoldable pub string_at : List ℕ → Index → Order → Result (Extent × Index) StringFault
string_at v i order = string_upto (string_of v i order)

abbrev pub counted_upto : Option (Index × ℕ) → Option (Extent × Index)
counted_upto (Some (from, n)) = Some (extent from n, index_of (from.0 + n))
counted_upto None = None

unfoldable pub counted_at : List ℕ → Index → Order → Option (Extent × Index)
counted_at v i order = counted_upto (counted_of v i order)
