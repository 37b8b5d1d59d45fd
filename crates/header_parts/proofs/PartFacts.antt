-- What a part that was read tells of the fields, texts and lists that it stands for.
use Rattle.std.specs.Prelude.{Option, Some, None, Result, Ok, Err}
use mathlib.Core.Path.{◌≡◌, refl, sym, ap, subst, ◌∙◌}
use mathlib.Core.List.{List, []}
use mathlib.Core.Bool.{Bool, true, false, cond}
use Prim.Native.Nat.{ℕ, ◌+◌, ◌≤◌}
use native.Mathlib.Omega.{arith}
use borrow.Author.Tests.{eqb-true, le-ltb}
use lib.Dec.{eqb}
use lib.ListN.{length, drop, length-drop}
use lib.Seq.{length-take-le}
use Rattle.choices.proofs.Choices.{by-test, clash}
use Rattle.choices.proofs.Tuples.{ok-pair, some-triple}
use Rattle.cdr.specs.declared.Index.{Index}
use Rattle.cdr.specs.declared.Order.{Order}
use Rattle.cdr.specs.declared.Size.TheVariants.{One, Two, Four}
use Rattle.cdr.specs.Align.{index_of}
use Rattle.cdr_text.specs.Text.{run_of}
use Rattle.cdr_fields.specs.declared.Extent.{Extent}
use Rattle.cdr_fields.specs.declared.TaggedList.{TaggedList}
use Rattle.cdr_fields.specs.Encapsulation.{field_of, string_of, counted_of}
use Rattle.cdr_fields.specs.Extents.{extent, extent_octets, string_upto, string_at, counted_at}
use Rattle.cdr_fields.specs.Tagged.{tagged_from, tag_from, tagged_at, tagged_list_at}
use Rattle.cdr_fields.proofs.FieldsRead.{counted_is}
use Rattle.cdr_fields.proofs.FieldsWithin.{string-facts, counted-at-is, counted-at-facts}
use Rattle.cdr_fields.proofs.TaggedWithin.{tagged-inside, tagged-list-inside}
use Rattle.version.specs.Versions.{response_allowed, status_exists}
use Rattle.header_parts.specs.declared.Refusal.{Refusal}
use Rattle.header_parts.specs.declared.Refusal.TheVariants.{NoSuchTarget, NoSuchResponse, NoSuchStatus}
use Rattle.header_parts.specs.declared.TargetAddress.{TargetAddress}
use Rattle.header_parts.specs.declared.TargetAddress.TheVariants.{Key, Profile, Reference}
use Rattle.header_parts.specs.Parts.{response_from, response_at, status_from, status_at, header_text, header_text_at}
use Rattle.header_parts.specs.Targets.{key_found, key_target, profile_found, profile_target, profiles_found, on_header_text, type_id_then, index_then}
use Rattle.header_parts.specs.Targets.{reference_target}
use Rattle.header_parts.specs.Targets.{target_of_kind, kind_then, target_at}
use Rattle.cdr_fields.specs.declared.StringFault.TheVariants.{BadText, NoText}
use Rattle.cdr_fields.specs.declared.StringFault.{StringFault}

-- a text's extent with its final zero
abbrev with_zero : Extent → Extent
with_zero part = extent part.from (part.length + 1)

-- octets that are there are as many as their extent says
pub extent-length : (v : List ℕ) (part : Extent) → part.from.0 + part.length ≤ length v → length (extent_octets v part) ≡ part.length
unfolding extent_octets
extent-length v part h = length-take-le part.length (drop part.from.0 v) (omega (arith, length-drop part.from.0 v, h))

module _ (v : List ℕ) (i : Index) (order : Order) where
  -- a text is its octets behind their count, its final zero with them
  by-string : (s : Result (Index × ℕ) StringFault) → string_of v i order ≡ s → (part : Extent) (next : Index) → string_upto s ≡ Ok (part, next)
      → counted_at v i order ≡ Some (with_zero part, next)
  unfolding run_of
  by-string (Ok (from, n)) e part next q =
      let parts = ok-pair q in
      let a : extent from n ≡ part = cc in
      let b : index_of (from.0 + n + 1) ≡ next = cc in
      let f = string-facts v i order from n e in
      let there : run_of v from.0 (n + 1) ≡ Some (from.0 + (n + 1)) = rw (le-ltb (length v) (from.0 + (n + 1)) f.1) in
      let c = counted-at-is v i order _ (counted_is v i order (n + 1) from f.0 _ there) in
      let k : from.0 + (n + 1) ≡ from.0 + n + 1 = omega arith in
      c ∙ rw (k, b, ← a)
  by-string (Err BadText) e part next q = clash cc
  by-string (Err NoText) e part next q = clash cc

  by-text : (s : Result (Extent × Index) StringFault) → string_at v i order ≡ s → (part : Extent) (next : Index) → header_text s ≡ Ok (part, next)
      → counted_at v i order ≡ Some (with_zero part, next)
  unfolding string_at
  by-text (Ok (p, j)) e part next q =
      let parts = ok-pair q in by-string (string_of v i order) refl part next (rw (e, parts.0, parts.1))
  by-text (Err BadText) e part next q = clash cc
  by-text (Err NoText) e part next q = clash cc

  pub text-counted : (part : Extent) (next : Index) → header_text_at v i order ≡ Ok (part, next)
      → counted_at v i order ≡ Some (extent part.from (part.length + 1), next)
  unfolding header_text_at
  text-counted part next q = by-text (string_at v i order) refl part next q

  -- tagged octets are a tag, then octets behind their count
  pub record TaggedRead (tag : ℕ) (part : Extent) (next : Index) : Type 0 where
    pub behind : Index
    pub tagged : field_of v i Four order ≡ Some (tag, behind)
    pub counted : counted_at v behind order ≡ Some (part, next)

  by-octets : (t : ℕ) (j : Index) → field_of v i Four order ≡ Some (t, j) → (c : Option (Index × ℕ)) → counted_of v j order ≡ c
      → (tag : ℕ) (part : Extent) (next : Index) → tagged_from t c ≡ Some (tag, part, next) → TaggedRead tag part next
  by-octets t j e (Some (from, n)) d tag part next q =
      let parts = some-triple q in
      record { behind = j; tagged = rw (e, parts.0); counted = counted-at-is v j order _ d ∙ rw (parts.1, parts.2) }
  by-octets t j e None d tag part next q = clash cc

  by-tag : (f : Option (ℕ × Index)) → field_of v i Four order ≡ f → (tag : ℕ) (part : Extent) (next : Index) → tag_from v order f ≡ Some (tag, part, next)
      → TaggedRead tag part next
  by-tag (Some (t, j)) e tag part next q = by-octets t j e (counted_of v j order) refl tag part next q
  by-tag None e tag part next q = clash cc

  pub tagged-facts : (tag : ℕ) (part : Extent) (next : Index) → tagged_at v i order ≡ Some (tag, part, next) → TaggedRead tag part next
  unfolding tagged_at
  tagged-facts tag part next q = by-tag (field_of v i Four order) refl tag part next q

-- targets
module _ (v : List ℕ) (i : Index) (order : Order) where
  pub record KeyRead (t : TargetAddress) (next : Index) : Type 0 where
    pub octets : Extent
    pub said : Key octets ≡ t
    pub counted : counted_at v i order ≡ Some (octets, next)

  by-counted : (c : Option (Extent × Index)) → counted_at v i order ≡ c → (t : TargetAddress) (next : Index) → key_found c ≡ Ok (t, next) → KeyRead t next
  by-counted (Some (octets, j)) e t next q =
      let parts = ok-pair q in
      record { octets = octets; said = parts.0; counted = rw (e, parts.1) }
  by-counted None e t next q = clash cc

  pub key-facts : (t : TargetAddress) (next : Index) → key_target v i order ≡ Ok (t, next) → KeyRead t next
  unfolding key_target
  key-facts t next q = by-counted (counted_at v i order) refl t next q

  pub record ProfileRead (t : TargetAddress) (next : Index) : Type 0 where
    pub tag : ℕ
    pub octets : Extent
    pub said : Profile tag octets ≡ t
    pub tagged : tagged_at v i order ≡ Some (tag, octets, next)

  by-tagged : (c : Option (ℕ × Extent × Index)) → tagged_at v i order ≡ c → (t : TargetAddress) (next : Index) → profile_found c ≡ Ok (t, next) → ProfileRead t next
  by-tagged (Some (tag, octets, j)) e t next q =
      let parts = ok-pair q in
      record { tag = tag; octets = octets; said = parts.0; tagged = rw (e, parts.1) }
  by-tagged None e t next q = clash cc

  pub profile-facts : (t : TargetAddress) (next : Index) → profile_target v i order ≡ Ok (t, next) → ProfileRead t next
  unfolding profile_target
  profile-facts t next q = by-tagged (tagged_at v i order) refl t next q

  pub record ReferenceRead (t : TargetAddress) (next : Index) : Type 0 where
    pub index : ℕ
    pub id : Extent
    pub profiles : TaggedList
    pub said : Reference index id profiles ≡ t
    pub behind : Index
    pub indexed : field_of v i Four order ≡ Some (index, behind)
    pub listed : Index
    pub named : header_text_at v behind order ≡ Ok (id, listed)
    pub list : tagged_list_at v listed order ≡ Some (profiles, next)

  by-list : (index : ℕ) (j : Index) → field_of v i Four order ≡ Some (index, j) → (id : Extent) (k : Index) → header_text_at v j order ≡ Ok (id, k)
      → (l : Option (TaggedList × Index)) → tagged_list_at v k order ≡ l → (t : TargetAddress) (next : Index) → profiles_found index id l ≡ Ok (t, next) → ReferenceRead t next
  by-list index j e id k f (Some (profiles, m)) g t next q =
      let parts = ok-pair q in
      record {
        index = index;
        id = id;
        profiles = profiles;
        said = parts.0;
        behind = j;
        indexed = e;
        listed = k;
        named = f;
        list = rw (g, parts.1);
      }
  by-list index j e id k f None g t next q = clash cc

  by-id : (index : ℕ) (j : Index) → field_of v i Four order ≡ Some (index, j) → (s : Result (Extent × Index) Refusal) → header_text_at v j order ≡ s → (t : TargetAddress) (next : Index)
      → on_header_text s (λ id k. profiles_found index id (tagged_list_at v k order)) ≡ Ok (t, next) → ReferenceRead t next
  by-id index j e (Ok (id, k)) f t next q = by-list index j e id k f (tagged_list_at v k order) refl t next q
  by-id index j e (Err r) f t next q = clash cc

  by_index : (f : Option (ℕ × Index)) → field_of v i Four order ≡ f → (t : TargetAddress) (next : Index) → index_then v order f ≡ Ok (t, next) → ReferenceRead t next
  unfolding type_id_then
  by_index (Some (index, j)) e t next q = by-id index j e (header_text_at v j order) refl t next q
  by_index None e t next q = clash cc

  pub reference-facts : (t : TargetAddress) (next : Index) → reference_target v i order ≡ Ok (t, next) → ReferenceRead t next
  unfolding reference_target
  reference-facts t next q = by_index (field_of v i Four order) refl t next q

  pub record TargetRead (t : TargetAddress) (next : Index) : Type 0 where
    pub kind : ℕ
    pub behind : Index
    pub field : field_of v i Two order ≡ Some (kind, behind)
    pub target : target_of_kind v kind behind order ≡ Ok (t, next)

  by_kind : (f : Option (ℕ × Index)) → field_of v i Two order ≡ f → (t : TargetAddress) (next : Index) → kind_then v order f ≡ Ok (t, next) → TargetRead t next
  by_kind (Some (kind, j)) e t next q = record { kind = kind; behind = j; field = e; target = q }
  by_kind None e t next q = clash cc

  pub target-facts : (t : TargetAddress) (next : Index) → target_at v i order ≡ Ok (t, next) → TargetRead t next
  unfolding target_at
  target-facts t next q = by_kind (field_of v i Two order) refl t next q

  -- a target ends in the octets
  pub key-inside : (t : TargetAddress) (next : Index) → key_target v i order ≡ Ok (t, next) → next.0 ≤ length v
  key-inside t next q = let r = key-facts t next q in (counted-at-facts v i order r.octets next r.counted).fits

  profile-inside : (t : TargetAddress) (next : Index) → profile_target v i order ≡ Ok (t, next) → next.0 ≤ length v
  profile-inside t next q = let r = profile-facts t next q in (tagged-inside v i order r.tag r.octets next r.tagged).1

  reference-inside : (t : TargetAddress) (next : Index) → reference_target v i order ≡ Ok (t, next) → next.0 ≤ length v
  reference-inside t next q = let r = reference-facts t next q in tagged-list-inside v r.listed order r.profiles next r.list

module _ (v : List ℕ) (i : Index) (order : Order) where
  -- by its kind
  pub by-target : (P : ℕ → Type 0) (kind : ℕ) (t : TargetAddress) (next : Index) → target_of_kind v kind i order ≡ Ok (t, next)
      → (key_target v i order ≡ Ok (t, next) → P 0) → (profile_target v i order ≡ Ok (t, next) → P 1) → (reference_target v i order ≡ Ok (t, next) → P 2) → P kind
  by-target P kind t next e key profile reference =
      by-test (eqb kind 0) (λ z. subst P (sym (eqb-true kind 0 z)) (key (let q : key_target v i order ≡ Ok (t, next) = rw z at e in q))) (λ z.
      by-test (eqb kind 1) (λ o. subst P (sym (eqb-true kind 1 o)) (profile (let q : profile_target v i order ≡ Ok (t, next) = rw (z, o) at e in q))) (λ o.
      by-test (eqb kind 2) (λ w. subst P (sym (eqb-true kind 2 w)) (reference (let q : reference_target v i order ≡ Ok (t, next) = rw (z, o, w) at e in q)))
      (λ w. let q : ◌≡◌ {A = Result (TargetAddress × Index) Refusal} (Err NoSuchTarget) (Ok (t, next)) = rw (z, o, w) at e in clash cc)))

  pub kind-inside : (kind : ℕ) (t : TargetAddress) (next : Index) → target_of_kind v kind i order ≡ Ok (t, next) → next.0 ≤ length v
  kind-inside kind t next e =
      by-target (λ (k : ℕ). next.0 ≤ length v) kind t next e (key-inside v i order t next) (profile-inside v i order t next)
      (reference-inside v i order t next)

module _ (v : List ℕ) (i : Index) (order : Order) where
  pub target-inside : (t : TargetAddress) (next : Index) → target_at v i order ≡ Ok (t, next) → next.0 ≤ length v
  target-inside t next q = let r = target-facts v i order t next q in kind-inside v r.behind order r.kind t next r.target

  pub text-inside : (part : Extent) (next : Index) → header_text_at v i order ≡ Ok (part, next) → next.0 ≤ length v
  text-inside part next q = (counted-at-facts v i order (with_zero part) next (text-counted v i order part next q)).fits

-- a response and a status are numbers
module _ (v : List ℕ) (i : Index) (order : Order) (minor : ℕ) where
  allowed : (b : Bool) (x y : ℕ) (j next : Index) (r : Refusal) → ◌≡◌ {A = Result (ℕ × Index) Refusal} (cond b (Ok (x, j)) (Err r)) (Ok (y, next))
      → ◌≡◌ {A = Option (ℕ × Index)} (Some (x, j)) (Some (y, next))
  allowed true x y j next r e = let parts = ok-pair e in rw (parts.0, parts.1)
  allowed false x y j next r e = clash cc

  response-by : (f : Option (ℕ × Index)) → field_of v i One order ≡ f → (x : ℕ) (next : Index) → response_from minor f ≡ Ok (x, next) → field_of v i One order ≡ Some (x, next)
  response-by (Some (y, j)) e x next q = e ∙ allowed (response_allowed minor y) y x j next NoSuchResponse q
  response-by None e x next q = clash cc

  pub response-field : (x : ℕ) (next : Index) → response_at v i order minor ≡ Ok (x, next) → field_of v i One order ≡ Some (x, next)
  unfolding response_at
  response-field x next q = response-by (field_of v i One order) refl x next q

  status-by : (f : Option (ℕ × Index)) → field_of v i Four order ≡ f → (x : ℕ) (next : Index) → status_from minor f ≡ Ok (x, next) → field_of v i Four order ≡ Some (x, next)
  status-by (Some (y, j)) e x next q = e ∙ allowed (status_exists minor y) y x j next NoSuchStatus q
  status-by None e x next q = clash cc

  pub status-field : (x : ℕ) (next : Index) → status_at v i order minor ≡ Ok (x, next) → field_of v i Four order ≡ Some (x, next)
  unfolding status_at
  status-field x next q = status-by (field_of v i Four order) refl x next q
