-- "An encapsulation: order octet, major, minor, host string, port, key; from minor 1 a list of components (tag, octets)." Each part is read
-- at an index of the body's octets v, its own index 0 first, and tells the index after it; each gives 60 where its octets end.
--   profile_refusal_number   01's number of a refusal
--   order_named             the order that an octet names, or 61 "order octet above 1"
--   order_from              what the order octet gives, if it is there
--   order_part_at            the order octet
--   minor_from              what the minor gives, if it is there: 62 "not 1.0 to 1.2"
--   minor_part_at            the minor, behind a major that exists
--   major_from              what the major gives, if it is there: 62, "major tested before minor is read"
--   version_at              the version
--   host_refusal            why there is no host: 63 "host as 32", or its octets end
--   host_from               what a text gives as a host, "without its zero"
--   host_at                 the host
--   number_part             what a field gives as a number
--   number_part_at           a number of a size
--   port_at                 the port, an unsigned short
--   key_from                what counted octets give as a key
--   key_at                  the key: its octets behind their count
--   component_count_at       the number of components, an unsigned long
--   component_part          what tagged octets give as a component
--   component_at            a component: its tag, an unsigned long, then its octets
use Rattle.std.specs.Prelude.{ℕ, ◌+◌, List, cond, get_or, Option, Some, None, Result, Ok, Err}
use Rattle.cdr.specs.declared.Index.{Index}
use Rattle.cdr.specs.declared.Order.{Order}
use Rattle.cdr.specs.declared.Size.{Size}
use Rattle.cdr.specs.declared.Size.TheVariants.{Two, Four}
use Rattle.profile_parts.specs.declared.Refusal.{Refusal}
use Rattle.profile_parts.specs.declared.Refusal.TheVariants.{TooLong, Ends, NoSuchOrder, NoSuchVersion, BadHost, AfterKey, NoSuchComponent}
use Rattle.version.specs.Versions.{major_exists, minor_exists}
use Rattle.cdr.specs.Align.{index_of}
use Rattle.cdr.specs.Orders.{order_of}
use Rattle.cdr_text.specs.Text.{run_of}
use Rattle.cdr_fields.specs.Encapsulation.{field_of, counted_of}
use Rattle.cdr_fields.specs.Extents.{extent, string_at}
use Rattle.cdr_fields.specs.Tagged.{tagged_at}
use Rattle.cdr_fields.specs.declared.Extent.{Extent}
use Rattle.cdr_fields.specs.declared.StringFault.TheVariants.{BadText, NoText}
use Rattle.cdr_fields.specs.declared.StringFault.{StringFault}

abbrev pub profile_refusal_number : Refusal → ℕ
profile_refusal_number TooLong = 42
profile_refusal_number Ends = 60
profile_refusal_number NoSuchOrder = 61
profile_refusal_number NoSuchVersion = 62
profile_refusal_number BadHost = 63
profile_refusal_number AfterKey = 64
profile_refusal_number NoSuchComponent = 69

abbrev pub order_named : Option Order → Index → Result (Order × Index) Refusal
order_named (Some order) next = Ok (order, next)
order_named None next = Err NoSuchOrder

abbrev pub order_from : List ℕ → Index → Option ℕ → Result (Order × Index) Refusal
order_from v i (Some e) = order_named (order_of (get_or v i.0 0)) (index_of e)
order_from v i None = Err Ends

unfoldable pub order_part_at : List ℕ → Index → Result (Order × Index) Refusal
order_part_at v i = order_from v i (run_of v i.0 1)

abbrev pub minor_from : List ℕ → ℕ → Index → Option ℕ → Result (ℕ × ℕ × Index) Refusal
minor_from v major i (Some e) = cond (minor_exists (get_or v i.0 0)) (Ok (major, get_or v i.0 0, index_of e)) (Err NoSuchVersion)
minor_from v major i None = Err Ends

unfoldable pub minor_part_at : List ℕ → ℕ → Index → Result (ℕ × ℕ × Index) Refusal
minor_part_at v major i = minor_from v major i (run_of v i.0 1)

abbrev pub major_from : List ℕ → Index → Option ℕ → Result (ℕ × ℕ × Index) Refusal
major_from v i (Some e) = cond (major_exists (get_or v i.0 0)) (minor_part_at v (get_or v i.0 0) (index_of (i.0 + 1))) (Err NoSuchVersion)
major_from v i None = Err Ends

unfoldable pub version_at : List ℕ → Index → Result (ℕ × ℕ × Index) Refusal
version_at v i = major_from v i (run_of v i.0 1)

abbrev pub host_refusal : StringFault → Refusal
host_refusal BadText = BadHost
host_refusal NoText = Ends

abbrev pub host_from : Result (Extent × Index) StringFault → Result (Extent × Index) Refusal
host_from (Ok (octets, next)) = Ok (octets, next)
host_from (Err fault) = Err (host_refusal fault)

unfoldable pub host_at : List ℕ → Index → Order → Result (Extent × Index) Refusal
host_at v i order = host_from (string_at v i order)

abbrev pub number_part : Option (ℕ × Index) → Result (ℕ × Index) Refusal
number_part (Some (x, next)) = Ok (x, next)
number_part None = Err Ends

unfoldable pub number_part_at : List ℕ → Index → Size → Order → Result (ℕ × Index) Refusal
number_part_at v i size order = number_part (field_of v i size order)

abbrev pub port_at : List ℕ → Index → Order → Result (ℕ × Index) Refusal
port_at v i order = number_part_at v i Two order

abbrev pub key_from : Option (Index × ℕ) → Result (Extent × Index) Refusal
key_from (Some (from, n)) = Ok (extent from n, index_of (from.0 + n))
key_from None = Err Ends

unfoldable pub key_at : List ℕ → Index → Order → Result (Extent × Index) Refusal
key_at v i order = key_from (counted_of v i order)

abbrev pub component_count_at : List ℕ → Index → Order → Result (ℕ × Index) Refusal
component_count_at v i order = number_part_at v i Four order

abbrev pub component_part : Option (ℕ × Extent × Index) → Result (ℕ × Extent × Index) Refusal
component_part (Some (tag, octets, next)) = Ok (tag, octets, next)
component_part None = Err Ends

unfoldable pub component_at : List ℕ → Index → Order → Result (ℕ × Extent × Index) Refusal
component_at v i order = component_part (tagged_at v i order)
