-- Which extent each answer about a header has.
use Rattle.std.specs.Prelude.{Result}
use mathlib.Core.Path.{◌≡◌, ap}
use mathlib.Core.List.{List}
use Prim.Native.Nat.{ℕ}
use Rattle.header.specs.Header.{header_answer}
use Rattle.header.specs.Numbered.{context_of, profile_of_target}
use Rattle.header_octets.specs.Octets.{target_in, target_extent, operation_in, operation_extent, principal_in, principal_extent}
use Rattle.header_octets.specs.Octets.{numbered_part, context_extent, profile_extent}
use Rattle.cdr_fields.specs.declared.Extent.{Extent}
use Rattle.header.specs.declared.MessageHeader.{MessageHeader}
use Rattle.header_parts.specs.declared.Refusal.{Refusal}

module _ (v : List ℕ) where
  module _ (a : Result MessageHeader Refusal) (e : header_answer v ≡ a) where
    pub target_is : target_extent v ≡ target_in a
    unfolding target_extent
    target_is = ap target_in e

    pub operation-is : operation_extent v ≡ operation_in a
    unfolding operation_extent
    operation-is = ap operation_in e

    pub principal-is : principal_extent v ≡ principal_in a
    unfolding principal_extent
    principal-is = ap principal_in e

  pub context-is : (number : ℕ) (a : Result (ℕ × Extent) Refusal) → context_of v number ≡ a → context_extent v number ≡ numbered_part a
  unfolding context_extent
  context-is number a e = ap numbered_part e

  pub profile-is : (number : ℕ) (a : Result (ℕ × Extent) Refusal) → profile_of_target v number ≡ a → profile_extent v number ≡ numbered_part a
  unfolding profile_extent
  profile-is number a e = ap numbered_part e
