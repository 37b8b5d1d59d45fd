-- The octets of a header's parts, as extents of the message: "Texts and octets come back as a profile's do".
--   target_part        the octets of a target: the key, the profile's octets, or the type id without its final zero
--   target_in          the target of a request, no octets of another answer
--   target_extent      the target's octets of a message
--   operation_in       the operation of a request, no octets of another answer
--   operation_extent   the operation of a message, without its final zero
--   principal_in       the principal of a request, no octets of another answer
--   principal_extent   the principal of a message
--   numbered_part      the octets of a context or a profile that is there, none where it is refused
--   context_extent     the octets of the context of a number
--   profile_extent     the octets of the profile of a number
use Rattle.std.specs.Prelude.{ℕ, List, Result, Ok, Err}
use Rattle.cdr_fields.specs.declared.Extent.{Extent}
use Rattle.cdr_fields.specs.Extents.{no_extent}
use Rattle.header_parts.specs.declared.TargetAddress.{TargetAddress}
use Rattle.header_parts.specs.declared.TargetAddress.TheVariants.{Key, Profile, Reference}
use Rattle.header.specs.Header.{header_answer}
use Rattle.header.specs.Numbered.{context_of, profile_of_target}
use Rattle.header.specs.declared.MessageHeader.TheVariants.{Answered, Called}
use Rattle.header.specs.declared.MessageHeader.{MessageHeader}
use Rattle.header_parts.specs.declared.Refusal.{Refusal}

abbrev pub target_part : TargetAddress → Extent
target_part (Key octets) = octets
target_part (Profile tag octets) = octets
target_part (Reference index id profiles) = id

abbrev pub target_in : Result MessageHeader Refusal → Extent
target_in (Ok (Called q)) = target_part q.target
target_in (Ok (Answered a)) = no_extent
target_in (Err r) = no_extent

unfoldable pub target_extent : List ℕ → Extent
target_extent v = target_in (header_answer v)

abbrev pub operation_in : Result MessageHeader Refusal → Extent
operation_in (Ok (Called q)) = q.operation
operation_in (Ok (Answered a)) = no_extent
operation_in (Err r) = no_extent

unfoldable pub operation_extent : List ℕ → Extent
operation_extent v = operation_in (header_answer v)

abbrev pub principal_in : Result MessageHeader Refusal → Extent
principal_in (Ok (Called q)) = q.principal
principal_in (Ok (Answered a)) = no_extent
principal_in (Err r) = no_extent

unfoldable pub principal_extent : List ℕ → Extent
principal_extent v = principal_in (header_answer v)

abbrev pub numbered_part : Result (ℕ × Extent) Refusal → Extent
numbered_part (Ok (tag, octets)) = octets
numbered_part (Err r) = no_extent

unfoldable pub context_extent : List ℕ → ℕ → Extent
context_extent v number = numbered_part (context_of v number)

unfoldable pub profile_extent : List ℕ → ℕ → Extent
profile_extent v number = numbered_part (profile_of_target v number)
