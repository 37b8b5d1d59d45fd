-- The octets of a profile body's parts, as extents of the body.
--   host_in             the host of a body that was read, no octets of a refused one
--   host_extent         "host (without its zero)"
--   key_in              the key of a body that was read, no octets of a refused one
--   key_extent          the key
--   found_in            the octets of a component that is there, none where it is refused
--   component_extent    the octets of the component of a number
use Rattle.std.specs.Prelude.{ℕ, List, Result, Ok, Err}
use Rattle.cdr_fields.specs.declared.Extent.{Extent}
use Rattle.cdr_fields.specs.Extents.{no_extent}
use Rattle.profile.specs.Profile.{profile_of, component_of}
use Rattle.profile.specs.declared.Profile.{Profile}
use Rattle.profile_parts.specs.declared.Refusal.{Refusal}

abbrev pub host_in : Result Profile Refusal → Extent
host_in (Ok p) = p.host
host_in (Err r) = no_extent

unfoldable pub host_extent : List ℕ → Extent
host_extent v = host_in (profile_of v)

abbrev pub key_in : Result Profile Refusal → Extent
key_in (Ok p) = p.key
key_in (Err r) = no_extent

unfoldable pub key_extent : List ℕ → Extent
key_extent v = key_in (profile_of v)

abbrev pub found_in : Result (ℕ × Extent) Refusal → Extent
found_in (Ok (tag, octets)) = octets
found_in (Err r) = no_extent

unfoldable pub component_extent : List ℕ → ℕ → Extent
component_extent v number = found_in (component_of v number)
