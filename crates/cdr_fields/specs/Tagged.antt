-- A list of tagged, counted octets, one after the other: v are an encapsulation's octets alone, its own index 0 first.
--   tagged_from      what counted octets give behind a tag
--   tag_from         what a field gives as a tag, then the octets behind their count
--   tagged_at        a tag, an unsigned long, then octets behind their count, and the index after them
--   on_tagged        what follows tagged octets, or that there are none
--   skip_tagged      the index after n of them
--   tagged_after     those at the index after others that were skipped
--   tagged_behind    those behind n others
--   tagged_list      a list of them by its count and its first one's index
--   tagged_list_upto  what the index after so many gives as a list
--   tagged_list_from  what a field gives as a count, then so many of them
--   tagged_list_at    a count, an unsigned long, and so many tagged octets; and the index after them
use Rattle.std.specs.Prelude.{ℕ, zero, suc, ◌+◌, List, Option, Some, None}
use Rattle.cdr.specs.declared.Index.{Index}
use Rattle.cdr.specs.declared.Order.{Order}
use Rattle.cdr.specs.declared.Size.TheVariants.{Four}
use Rattle.cdr.specs.Align.{index_of}
use Rattle.cdr_fields.specs.declared.TaggedList.{TaggedList}
use Rattle.cdr_fields.specs.Encapsulation.{field_of, counted_of}
use Rattle.cdr_fields.specs.Extents.{extent}
use Rattle.cdr_fields.specs.declared.Extent.{Extent}

abbrev pub tagged_from : ℕ → Option (Index × ℕ) → Option (ℕ × Extent × Index)
tagged_from tag (Some (from, n)) = Some (tag, extent from n, index_of (from.0 + n))
tagged_from tag None = None

abbrev pub tag_from : List ℕ → Order → Option (ℕ × Index) → Option (ℕ × Extent × Index)
tag_from v order (Some (tag, next)) = tagged_from tag (counted_of v next order)
tag_from v order None = None

unfoldable pub tagged_at : List ℕ → Index → Order → Option (ℕ × Extent × Index)
tagged_at v i order = tag_from v order (field_of v i Four order)

abbrev pub on_tagged : Option (ℕ × Extent × Index) → (Index → Option Index) → Option Index
on_tagged (Some (tag, octets, next)) f = f next
on_tagged None f = None

unfoldable pub skip_tagged : List ℕ → Order → ℕ → Index → Option Index
skip_tagged v order zero i = Some i
skip_tagged v order (suc n) i = on_tagged (tagged_at v i order) (λ next. skip_tagged v order n next)

abbrev pub tagged_after : List ℕ → Order → Option Index → Option (ℕ × Extent × Index)
tagged_after v order (Some i) = tagged_at v i order
tagged_after v order None = None

unfoldable pub tagged_behind : List ℕ → Index → ℕ → Order → Option (ℕ × Extent × Index)
tagged_behind v first n order = tagged_after v order (skip_tagged v order n first)

abbrev pub tagged_list : ℕ → Index → TaggedList
tagged_list count first = record { count = count; first = first }

abbrev pub tagged_list_upto : ℕ → Index → Option Index → Option (TaggedList × Index)
tagged_list_upto count first (Some next) = Some (tagged_list count first, next)
tagged_list_upto count first None = None

abbrev pub tagged_list_from : List ℕ → Order → Option (ℕ × Index) → Option (TaggedList × Index)
tagged_list_from v order (Some (count, first)) = tagged_list_upto count first (skip_tagged v order count first)
tagged_list_from v order None = None

unfoldable pub tagged_list_at : List ℕ → Index → Order → Option (TaggedList × Index)
tagged_list_at v i order = tagged_list_from v order (field_of v i Four order)
