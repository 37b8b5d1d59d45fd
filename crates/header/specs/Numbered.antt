-- "contexts and a reference's profiles by number with 69 likewise": the number is judged last.
--   numbered_found     what tagged octets are given as; those of an accepted header are all there (`ContextsAll`, `ProfilesAll`)
--   numbered_tag       those of a number in a list: 69 "for a number not below their count"
--   list_of_none        a list of nothing
--   profiles_in        a target's profiles, none where it is no reference
--   context_in, profile_in   of an answer about a header, the context or profile of a number
--   context_of         the context of a number, the first one 0
--   profile_of_target   the profile of a number of the reference that a request is addressed to
use Rattle.std.specs.Prelude.{ℕ, List, leb, Option, Some, None, Result, Ok, Err}
use Rattle.choices.specs.Branch.{choose}
use Rattle.cdr.specs.declared.Order.{Order}
use Rattle.cdr_fields.specs.declared.TaggedList.{TaggedList}
use Rattle.cdr_fields.specs.Encapsulation.{start}
use Rattle.cdr_fields.specs.Tagged.{tagged_behind, tagged_list}
use Rattle.header_parts.specs.declared.Refusal.TheVariants.{Ends, NoSuchPart}
use Rattle.header_parts.specs.declared.TargetAddress.{TargetAddress}
use Rattle.header_parts.specs.declared.TargetAddress.TheVariants.{Key, Profile, Reference}
use Rattle.header.specs.Header.{header_answer}
use Rattle.cdr.specs.declared.Index.{Index}
use Rattle.cdr_fields.specs.declared.Extent.{Extent}
use Rattle.header.specs.declared.MessageHeader.TheVariants.{Answered, Called}
use Rattle.header.specs.declared.MessageHeader.{MessageHeader}
use Rattle.header_parts.specs.declared.Refusal.{Refusal}

abbrev pub numbered_found : Option (ℕ × Extent × Index) → Result (ℕ × Extent) Refusal
numbered_found (Some (tag, octets, next)) = Ok (tag, octets)
numbered_found None = Err Ends

unfoldable pub numbered_tag : List ℕ → TaggedList → Order → ℕ → Result (ℕ × Extent) Refusal
numbered_tag v list order n =
    choose (leb list.count n) (λ _. (Err NoSuchPart)) (λ _. numbered_found (tagged_behind v list.first n order))

abbrev pub list_of_none : TaggedList
list_of_none = tagged_list 0 start

abbrev pub profiles_in : TargetAddress → TaggedList
profiles_in (Key octets) = list_of_none
profiles_in (Profile tag octets) = list_of_none
profiles_in (Reference index id profiles) = profiles

abbrev pub context_in : List ℕ → ℕ → Result MessageHeader Refusal → Result (ℕ × Extent) Refusal
context_in v n (Ok (Called q)) = numbered_tag v q.contexts q.order n
context_in v n (Ok (Answered a)) = numbered_tag v a.contexts a.order n
context_in v n (Err r) = Err r

unfoldable pub context_of : List ℕ → ℕ → Result (ℕ × Extent) Refusal
context_of v n = context_in v n (header_answer v)

abbrev pub profile_in : List ℕ → ℕ → Result MessageHeader Refusal → Result (ℕ × Extent) Refusal
profile_in v n (Ok (Called q)) = numbered_tag v (profiles_in q.target) q.order n
profile_in v n (Ok (Answered a)) = numbered_tag v list_of_none a.order n
profile_in v n (Err r) = Err r

unfoldable pub profile_of_target : List ℕ → ℕ → Result (ℕ × Extent) Refusal
profile_of_target v n = profile_in v n (header_answer v)
