-- Which extent each answer has.
use Rattle.std.specs.Prelude.{Result}
use mathlib.Core.Path.{◌≡◌, ap}
use mathlib.Core.List.{List}
use Prim.Native.Nat.{ℕ}
use Rattle.profile.specs.Profile.{profile_of, component_of}
use Rattle.profile_octets.specs.Octets.{host_in, host_extent, key_in, key_extent, found_in, component_extent}
use Rattle.cdr_fields.specs.declared.Extent.{Extent}
use Rattle.profile.specs.declared.Profile.{Profile}
use Rattle.profile_parts.specs.declared.Refusal.{Refusal}

module _ (v : List ℕ) where
  pub host-is : (a : Result Profile Refusal) → profile_of v ≡ a → host_extent v ≡ host_in a
  unfolding host_extent
  host-is a e = ap host_in e

  pub key-is : (a : Result Profile Refusal) → profile_of v ≡ a → key_extent v ≡ key_in a
  unfolding key_extent
  key-is a e = ap key_in e

  pub component-octets-are : (number : ℕ) (a : Result (ℕ × Extent) Refusal) → component_of v number ≡ a → component_extent v number ≡ found_in a
  unfolding component_extent
  component-octets-are number a e = ap found_in e
