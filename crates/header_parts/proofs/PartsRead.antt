-- What each part of a header comes to, by the fields, texts and lists that stand there.
use Rattle.std.specs.Prelude.{Option, Some, None, Result, Ok, Err}
use mathlib.Core.Path.{◌≡◌, ap, ◌∙◌}
use mathlib.Core.Bool.{Bool, true, false, cond}
use mathlib.Core.List.{List}
use Prim.Native.Nat.{ℕ, ◌≤◌, ◌<◌, ◌-◌}
use native.Mathlib.Omega.{arith}
use borrow.Author.Tests.{le-leb, lt-leb, lt-ltb, le-ltb}
use Rattle.cdr.specs.declared.Index.{Index}
use Rattle.cdr.specs.declared.Order.{Order}
use Rattle.cdr.specs.declared.Size.TheVariants.{One, Two, Four}
use Rattle.cdr.specs.Align.{aligned, gap}
use Rattle.cdr_fields.specs.declared.Extent.{Extent}
use Rattle.cdr_fields.specs.Encapsulation.{field_of}
use Rattle.cdr_fields.specs.Extents.{string_at, counted_at}
use Rattle.cdr_fields.specs.Tagged.{tagged_at, tagged_list_at}
use Rattle.version.specs.Versions.{response_allowed, status_exists, body_in_eights}
use Rattle.header_parts.specs.declared.Refusal.TheVariants.{Ends, NoSuchResponse, NoSuchStatus}
use Rattle.header_parts.specs.Parts.{response_from, response_at, status_from, status_at, header_text, header_text_at, body_place}
use Rattle.header_parts.specs.Targets.{key_found, key_target, profile_found, profile_target, profiles_found, on_header_text, type_id_then}
use Rattle.header_parts.specs.Targets.{index_then, reference_target, kind_then, target_at}
use Rattle.cdr_fields.specs.declared.StringFault.{StringFault}
use Rattle.cdr_fields.specs.declared.TaggedList.{TaggedList}
use Rattle.header_parts.specs.declared.Refusal.{Refusal}

module _ (v : List ℕ) (i : Index) (order : Order) where
  module _ (minor : ℕ) where
    pub response-none : field_of v i One order ≡ None → response_at v i order minor ≡ Err Ends
    unfolding response_at
    response-none e = ap (response_from minor) e

    pub response-is : (x : ℕ) (next : Index) → field_of v i One order ≡ Some (x, next) → (b : Bool) → response_allowed minor x ≡ b
        → response_at v i order minor ≡ cond b (Ok (x, next)) (Err NoSuchResponse)
    unfolding response_at
    response-is x next e b q = ap (response_from minor) e ∙ ap (λ (c : Bool). cond c (Ok (x, next)) (Err NoSuchResponse)) q

    pub status-none : field_of v i Four order ≡ None → status_at v i order minor ≡ Err Ends
    unfolding status_at
    status-none e = ap (status_from minor) e

    pub status-is : (x : ℕ) (next : Index) → field_of v i Four order ≡ Some (x, next) → (b : Bool) → status_exists minor x ≡ b
        → status_at v i order minor ≡ cond b (Ok (x, next)) (Err NoSuchStatus)
    unfolding status_at
    status-is x next e b q = ap (status_from minor) e ∙ ap (λ (c : Bool). cond c (Ok (x, next)) (Err NoSuchStatus)) q

  pub text-is : (s : Result (Extent × Index) StringFault) → string_at v i order ≡ s → header_text_at v i order ≡ header_text s
  unfolding header_text_at
  text-is s e = ap header_text e

  pub key-is : (c : Option (Extent × Index)) → counted_at v i order ≡ c → key_target v i order ≡ key_found c
  unfolding key_target
  key-is c e = ap key_found e

  pub profile-is : (c : Option (ℕ × Extent × Index)) → tagged_at v i order ≡ c → profile_target v i order ≡ profile_found c
  unfolding profile_target
  profile-is c e = ap profile_found e

  pub type-id-is : (index : ℕ) (t : Result (Extent × Index) Refusal) → header_text_at v i order ≡ t
      → type_id_then v index i order ≡ on_header_text t (λ id next. profiles_found index id (tagged_list_at v next order))
  unfolding type_id_then
  type-id-is index t e = ap (λ (x : Result (Extent × Index) Refusal). on_header_text x (λ id next. profiles_found index id (tagged_list_at v next order))) e

  pub profiles-are : (index : ℕ) (id : Extent) (next : Index) → header_text_at v i order ≡ Ok (id, next) → (l : Option (TaggedList × Index)) → tagged_list_at v next order ≡ l
      → type_id_then v index i order ≡ profiles_found index id l
  profiles-are index id next e l q = type-id-is index (Ok (id, next)) e ∙ ap (profiles_found index id) q

  pub reference-is : (f : Option (ℕ × Index)) → field_of v i Four order ≡ f → reference_target v i order ≡ index_then v order f
  unfolding reference_target
  reference-is f e = ap (index_then v order) e

  pub target_is : (f : Option (ℕ × Index)) → field_of v i Two order ≡ f → target_at v i order ≡ kind_then v order f
  unfolding target_at
  target_is f e = ap (kind_then v order) e

-- the place of the body
module _ (length end minor : ℕ) where
  pub body-empty : length ≤ end → body_place length end minor ≡ Ok length
  unfolding body_place
  body-empty h = rw (le-leb length end h)

  module _ (some : end < length) where
    pub body-behind : body_in_eights minor ≡ false → body_place length end minor ≡ Ok end
    unfolding body_place
    body-behind e = rw (lt-leb length end some, e)

    pub body-short : body_in_eights minor ≡ true → length - end < gap end 8 → body_place length end minor ≡ Err Ends
    unfolding body_place
    body-short e h = rw (lt-leb length end some, e, lt-ltb length (aligned end 8) (omega arith))

    pub body-aligned : body_in_eights minor ≡ true → gap end 8 ≤ length - end → body_place length end minor ≡ Ok (aligned end 8)
    unfolding body_place
    body-aligned e h = rw (lt-leb length end some, e, le-ltb length (aligned end 8) (omega arith))
