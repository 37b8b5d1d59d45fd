-- The target of a 1.2 request: "target (short 0 key, 1 profile, 2 index and reference)". A key stands alone before 1.2.
--   key_found          what counted octets give as a key
--   key_target         a key: its octets behind their count
--   profile_found      what tagged octets give as a profile
--   profile_target     a profile: its tag, then its octets behind their count
--   profiles_found     what a list of tagged octets gives as a reference's profiles
--   on_header_text      what follows a text, or its refusal
--   type_id_then        a reference behind the index: its type id, then its profiles
--   index_then         what a field gives as an index, then the reference
--   reference_target   an index and a reference
--   target_of_kind      what follows a kind: 72 where it is none of the three; a negative one is read as above them
--   kind_then          what a field gives as a kind
--   target_at          a target
use Rattle.std.specs.Prelude.{ℕ, List, cond, eqb, Option, Some, None, Result, Ok, Err}
use Rattle.cdr.specs.declared.Index.{Index}
use Rattle.cdr.specs.declared.Order.{Order}
use Rattle.cdr.specs.declared.Size.TheVariants.{Two, Four}
use Rattle.cdr_fields.specs.declared.Extent.{Extent}
use Rattle.cdr_fields.specs.Encapsulation.{field_of}
use Rattle.cdr_fields.specs.Extents.{counted_at}
use Rattle.cdr_fields.specs.Tagged.{tagged_at, tagged_list_at}
use Rattle.header_parts.specs.declared.Refusal.TheVariants.{Ends, NoSuchTarget}
use Rattle.header_parts.specs.declared.TargetAddress.TheVariants.{Key, Profile, Reference}
use Rattle.header_parts.specs.Parts.{header_text_at}
use Rattle.cdr_fields.specs.declared.TaggedList.{TaggedList}
use Rattle.header_parts.specs.declared.Refusal.{Refusal}
use Rattle.header_parts.specs.declared.TargetAddress.{TargetAddress}

abbrev pub key_found : Option (Extent × Index) → Result (TargetAddress × Index) Refusal
key_found (Some (octets, next)) = Ok (Key octets, next)
key_found None = Err Ends

unfoldable pub key_target : List ℕ → Index → Order → Result (TargetAddress × Index) Refusal
key_target v i order = key_found (counted_at v i order)

abbrev pub profile_found : Option (ℕ × Extent × Index) → Result (TargetAddress × Index) Refusal
profile_found (Some (tag, octets, next)) = Ok (Profile tag octets, next)
profile_found None = Err Ends

unfoldable pub profile_target : List ℕ → Index → Order → Result (TargetAddress × Index) Refusal
profile_target v i order = profile_found (tagged_at v i order)

abbrev pub profiles_found : ℕ → Extent → Option (TaggedList × Index) → Result (TargetAddress × Index) Refusal
profiles_found index id (Some (profiles, next)) = Ok (Reference index id profiles, next)
profiles_found index id None = Err Ends

abbrev pub on_header_text : Result (Extent × Index) Refusal → (Extent → Index → Result (TargetAddress × Index) Refusal) → Result (TargetAddress × Index) Refusal
on_header_text (Ok (text, next)) f = f text next
on_header_text (Err r) f = Err r

unfoldable pub type_id_then : List ℕ → ℕ → Index → Order → Result (TargetAddress × Index) Refusal
type_id_then v index i order = on_header_text (header_text_at v i order) (λ id next. profiles_found index id (tagged_list_at v next order))

abbrev pub index_then : List ℕ → Order → Option (ℕ × Index) → Result (TargetAddress × Index) Refusal
index_then v order (Some (index, next)) = type_id_then v index next order
index_then v order None = Err Ends

unfoldable pub reference_target : List ℕ → Index → Order → Result (TargetAddress × Index) Refusal
reference_target v i order = index_then v order (field_of v i Four order)

abbrev pub target_of_kind : List ℕ → ℕ → Index → Order → Result (TargetAddress × Index) Refusal
target_of_kind v kind i order =
    cond (eqb kind 0) (key_target v i order)
    (cond (eqb kind 1) (profile_target v i order)
    (cond (eqb kind 2) (reference_target v i order)
    (Err NoSuchTarget)))

abbrev pub kind_then : List ℕ → Order → Option (ℕ × Index) → Result (TargetAddress × Index) Refusal
kind_then v order (Some (kind, next)) = target_of_kind v kind next order
kind_then v order None = Err Ends

unfoldable pub target_at : List ℕ → Index → Order → Result (TargetAddress × Index) Refusal
target_at v i order = kind_then v order (field_of v i Two order)
