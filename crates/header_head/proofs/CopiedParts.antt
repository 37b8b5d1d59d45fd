-- What was copied part by part: targets, the parts of a header, and all of them.
use Rattle.std.specs.Prelude.{Option, Some, None, Result, Ok, Err}
use mathlib.Core.Path.{◌≡◌, refl, sym, ap, subst, ◌∙◌}
use mathlib.Core.List.{List, [], ◌∷◌, ◌++◌}
use Prim.Native.Nat.{ℕ, ◌+◌, ◌≤◌}
use native.Mathlib.Omega.{arith}
use lib.ListN.{drop, drop_of_length-le}
use Rattle.choices.proofs.Choices.{clash}
use Rattle.choices.proofs.Tuples.{some-pair}
use Rattle.cdr.specs.declared.Index.{Index}
use Rattle.cdr.specs.declared.Order.{Order}
use Rattle.cdr.specs.declared.Size.TheVariants.{One, Two, Four}
use Rattle.cdr.specs.Align.{index_of}
use Rattle.cdr_text.specs.Text.{run_of}
use Rattle.cdr_fields.specs.Encapsulation.{field_of}
use Rattle.cdr_fields.specs.Extents.{extent_octets, counted_at}
use Rattle.cdr_fields.specs.Tagged.{tagged_list_at}
use Rattle.cdr_write.specs.Pieces.{Piece}
use Rattle.cdr_pieces.specs.PartPieces.{number_piece, counted_pieces, tagged_list_pieces}
use Rattle.version.specs.Versions.{reserved_octets}
use Rattle.header_layout.specs.declared.HeaderPart.{HeaderPart}
use Rattle.header_layout.specs.declared.HeaderPart.TheVariants.{Contexts, Id, Response, Reserved, Key, Target as Addressed, Operation, Principal, Status}
use Rattle.header_layout.specs.Layout.{layout_of, part_number}
use Rattle.header_layout.proofs.PartsNumbered.{next-is, none_is, at-most-seven}
use Rattle.header_parts.specs.declared.TargetAddress.{TargetAddress}
use Rattle.header_parts.specs.Parts.{response_at, status_at, header_text_at}
use Rattle.header_parts.specs.Targets.{key_target, profile_target, target_of_kind, target_at}
use Rattle.header_parts.proofs.PartFacts.{text-counted, key-facts, profile-facts, reference-facts, target-facts, by-target, response-field, status-field}
use Rattle.header_reading.specs.Reading.{HeaderFields, HeaderUpto, through, part_read, parts_read}
use Rattle.header_reading.specs.Reading.{after_field, after_number, after_list, after_counted, after_text, after_target, after_reserved}
use Rattle.header_reading.specs.Reading.{contexts_set, id_set, response_set, target_set, operation_set, principal_set, status_set}
use Rattle.header.proofs.HeadersWithin.{first_read, none_read}
use Rattle.header_head.specs.HeadPieces.{with_zero, target_kind, target_pieces, part_pieces, on_head_part, head_pieces}
use Rattle.header_head.specs.Inner.{Copied, CopiesReserved, CopiesNumber, CopiesCounted, CopiesTagged, CopiesList, CopiesReference, CopiesKind}
use Rattle.header_head.specs.Inner.{CopiesTarget, CopiesPart, CopiesParts}
use Rattle.header_head.proofs.CopiedPieces.{copied_none, copied-append, copied_behind}
use Rattle.cdr_fields.specs.declared.Extent.{Extent}
use Rattle.cdr_fields.specs.declared.TaggedList.{TaggedList}
use Rattle.header_parts.specs.declared.Refusal.{Refusal}

-- targets
pub kind-is : (v : List ℕ) (order : Order) (i : Index) (kind : ℕ) (t : TargetAddress) (next : Index) → target_of_kind v kind i order ≡ Ok (t, next) → kind ≡ target_kind t
kind-is v order i kind t next e =
    by-target v i order (λ (k : ℕ). k ≡ target_kind t) kind t next e (λ q. ap target_kind (key-facts v i order t next q).said)
    (λ q. ap target_kind (profile-facts v i order t next q).said)
    (λ q. ap target_kind (reference-facts v i order t next q).said)

module _ (v : List ℕ) (order : Order) (at : ℕ) (out : List ℕ) where
  pub key-copies : (r : ℕ) (last : List ℕ) → CopiesCounted v order at out r last → (t : TargetAddress) (next : Index)
      → key_target v (index_of at) order ≡ Ok (t, next)
      → Copied order (target_pieces v order t) at next.0 out r last
  key-copies r last counted t next e =
      let k = key-facts v (index_of at) order t next e in
      subst (λ (u : TargetAddress). Copied order (target_pieces v order u) at next.0 out r last) k.said (counted k.octets next k.counted)

  pub profile-copies : (r : ℕ) (last : List ℕ) → CopiesTagged v order at out r last → (t : TargetAddress) (next : Index)
      → profile_target v (index_of at) order ≡ Ok (t, next)
      → Copied order (target_pieces v order t) at next.0 out r last
  profile-copies r last tagged t next e =
      let k = profile-facts v (index_of at) order t next e in
      subst (λ (u : TargetAddress). Copied order (target_pieces v order u) at next.0 out r last) k.said (tagged k.tag k.octets next k.tagged)

  pub reference-copies : (id : ℕ) (one : List ℕ) → CopiesNumber v order at out id one Four → (profiles : ℕ) (two : List ℕ)
      → CopiesCounted v order id one profiles two → (r : ℕ) (last : List ℕ) → CopiesList v order profiles two r last → CopiesReference v order at out r last
  reference-copies id one number profiles two counted r last list t next e =
      let k = reference-facts v (index_of at) order t next e in
      let n = number k.index k.behind k.indexed in
      let c =
      counted (with_zero k.id) k.listed (ap (λ (i : ℕ). counted_at v (index_of i) order) n.ends
      ∙ text-counted v k.behind order k.id k.listed k.named) in
      let l = list k.profiles next (ap (λ (i : ℕ). tagged_list_at v (index_of i) order) c.ends ∙ k.list) in
      let ps : List Piece = counted_pieces (extent_octets v (with_zero k.id)) in
      let qs : List Piece = tagged_list_pieces v order k.profiles in
      subst (λ (u : TargetAddress). Copied order (target_pieces v order u) at next.0 out r last) k.said
      (copied_behind order (number_piece 4 k.index ∷ []) (ps ++ qs) at k.behind.0 next.0 out id one r last n
      (copied_behind order ps qs id k.listed.0 next.0 one profiles two r last c l))

  module _ (kind : ℕ) where
    pub of-kind-0 : kind ≡ 0 → (r : ℕ) (last : List ℕ) → CopiesCounted v order at out r last → CopiesKind v order at out r last kind
    of-kind-0 z r last counted t next e =
        key-copies r last counted t next (ap (λ (k : ℕ). target_of_kind v k (index_of at) order) (sym z) ∙ e)

    pub of-kind-1 : kind ≡ 1 → (r : ℕ) (last : List ℕ) → CopiesTagged v order at out r last → CopiesKind v order at out r last kind
    of-kind-1 z r last tagged t next e =
        profile-copies r last tagged t next (ap (λ (k : ℕ). target_of_kind v k (index_of at) order) (sym z) ∙ e)

    pub of-kind-2 : (kind ≡ 0 → ⊥) → (kind ≡ 1 → ⊥) → (r : ℕ) (last : List ℕ) → CopiesReference v order at out r last → CopiesKind v order at out r last kind
    of-kind-2 m n r last reference t next e =
        by-target v (index_of at) order (λ (k : ℕ). kind ≡ k → Copied order (target_pieces v order t) at next.0 out r last) kind t next e
        (λ q z. absurd (m z)) (λ q z. absurd (n z)) (λ q z. reference t next q) refl

  pub target-copies : (kind : ℕ) (j : Index) → field_of v (index_of at) Two order ≡ Some (kind, j) → (behind : ℕ) (mid : List ℕ)
      → CopiesNumber v order at out behind mid Two → (r : ℕ) (last : List ℕ) → CopiesKind v order behind mid r last kind → CopiesTarget v order at out r last
  target-copies kind j f behind mid number r last copies t next e =
      let k = target-facts v (index_of at) order t next e in
      let parts = some-pair (sym f ∙ k.field) in
      let a = parts.0 in
      let n = number k.kind k.behind k.field in
      let there : target_of_kind v kind (index_of behind) order ≡ Ok (t, next) =
      ap (λ (x : ℕ). target_of_kind v x (index_of behind) order) a ∙ ap (λ (i : ℕ). target_of_kind v k.kind (index_of i) order) n.ends ∙ k.target in
      let named : k.kind ≡ target_kind t = kind-is v order k.behind k.kind t next k.target in
      let m = subst (λ (x : ℕ). Copied order (number_piece 2 x ∷ []) at k.behind.0 out behind mid) named n in
      copied_behind order (number_piece 2 (target_kind t) ∷ []) (target_pieces v order t) at k.behind.0 next.0 out behind mid r last m (copies t next there)

  pub target_none : field_of v (index_of at) Two order ≡ None → (r : ℕ) (last : List ℕ) → CopiesTarget v order at out r last
  target_none f r last t next e =
      let k = target-facts v (index_of at) order t next e in
      let q : ◌≡◌ {A = Option (ℕ × Index)} None (Some (k.kind, k.behind)) = sym f ∙ k.field in
      clash cc

-- parts
module _ (v : List ℕ) (order : Order) (minor at : ℕ) (out : List ℕ) (r : ℕ) (last : List ℕ) where
  abbrev Has : (HeaderFields → List Piece) → HeaderFields → Index → Type 0
  Has ps g next = Copied order (ps g) at next.0 out r last

  -- what holds of the fields and the index that a part gave
  told : (P : HeaderFields → Index → Type 0) (f g : HeaderFields) (i j : Index) → through f i ≡ through g j → P f i → P g j
  told P f g i j e p =
      let a : f ≡ g = cc in
      let b : i ≡ j = cc in
      subst (P g) b (subst (λ (x : HeaderFields). P x i) a p)

  pub contexts-part : CopiesList v order at out r last → CopiesPart v order at out r last minor Contexts
  unfolding part_read part_pieces
  contexts-part copies f g next e = by (tagged_list_at v (index_of at) order) refl e
    where
      by : (l : Option (TaggedList × Index)) → tagged_list_at v (index_of at) order ≡ l → after_list l (contexts_set f) ≡ through g next
          → Has (λ x. tagged_list_pieces v order x.contexts) g next
      by (Some (list, j)) q h = told (Has (λ x. tagged_list_pieces v order x.contexts)) (contexts_set f list) g j next h (copies list j q)
      by None q h = clash cc

  pub id-part : CopiesNumber v order at out r last Four → CopiesPart v order at out r last minor Id
  unfolding part_read part_pieces
  id-part copies f g next e = by (field_of v (index_of at) Four order) refl e
    where
      by : (l : Option (ℕ × Index)) → field_of v (index_of at) Four order ≡ l → after_field l (id_set f) ≡ through g next → Has (λ x. number_piece 4 x.id ∷ []) g next
      by (Some (x, j)) q h = told (Has (λ y. number_piece 4 y.id ∷ [])) (id_set f x) g j next h (copies x j q)
      by None q h = clash cc

  pub response-part : CopiesNumber v order at out r last One → CopiesPart v order at out r last minor Response
  unfolding part_read part_pieces
  response-part copies f g next e = by (response_at v (index_of at) order minor) refl e
    where
      by : (l : Result (ℕ × Index) Refusal) → response_at v (index_of at) order minor ≡ l → after_number l (response_set f) ≡ through g next
          → Has (λ x. number_piece 1 x.response ∷ []) g next
      by (Ok (x, j)) q h =
          told (Has (λ y. number_piece 1 y.response ∷ [])) (response_set f x) g j next h (copies x j (response-field v (index_of at) order minor x j q))
      by (Err n) q h = clash cc

  pub status-part : CopiesNumber v order at out r last Four → CopiesPart v order at out r last minor Status
  unfolding part_read part_pieces
  status-part copies f g next e = by (status_at v (index_of at) order minor) refl e
    where
      by : (l : Result (ℕ × Index) Refusal) → status_at v (index_of at) order minor ≡ l → after_number l (status_set f) ≡ through g next
          → Has (λ x. number_piece 4 x.status ∷ []) g next
      by (Ok (x, j)) q h =
          told (Has (λ y. number_piece 4 y.status ∷ [])) (status_set f x) g j next h (copies x j (status-field v (index_of at) order minor x j q))
      by (Err n) q h = clash cc

  pub reserved-part : CopiesReserved v order at out r last minor → CopiesPart v order at out r last minor Reserved
  unfolding part_read part_pieces
  reserved-part copies f g next e = by (run_of v at (reserved_octets minor)) refl e
    where
      by : (l : Option ℕ) → run_of v at (reserved_octets minor) ≡ l → after_reserved l f ≡ through g next → Has (λ x. part_pieces v order minor Reserved x) g next
      by (Some k) q h = told (Has (λ x. part_pieces v order minor Reserved x)) f g (index_of k) next h (copies k q)
      by None q h = clash cc

  pub key-part : CopiesCounted v order at out r last → CopiesPart v order at out r last minor Key
  unfolding part_read part_pieces
  key-part copies f g next e = by (key_target v (index_of at) order) refl e
    where
      by : (l : Result (TargetAddress × Index) Refusal) → key_target v (index_of at) order ≡ l → after_target l (target_set f) ≡ through g next
          → Has (λ x. target_pieces v order x.target) g next
      by (Ok (t, j)) q h = told (Has (λ x. target_pieces v order x.target)) (target_set f t) g j next h (key-copies v order at out r last copies t j q)
      by (Err n) q h = clash cc

  pub target-part : CopiesTarget v order at out r last → CopiesPart v order at out r last minor Addressed
  unfolding part_read part_pieces
  target-part copies f g next e = by (target_at v (index_of at) order) refl e
    where
      by : (l : Result (TargetAddress × Index) Refusal) → target_at v (index_of at) order ≡ l → after_target l (target_set f) ≡ through g next
          → Has (λ x. number_piece 2 (target_kind x.target) ∷ target_pieces v order x.target) g next
      by (Ok (t, j)) q h =
          told (Has (λ x. number_piece 2 (target_kind x.target) ∷ target_pieces v order x.target)) (target_set f t) g j next h (copies t j q)
      by (Err n) q h = clash cc

  pub operation-part : CopiesCounted v order at out r last → CopiesPart v order at out r last minor Operation
  unfolding part_read part_pieces
  operation-part copies f g next e = by (header_text_at v (index_of at) order) refl e
    where
      by : (l : Result (Extent × Index) Refusal) → header_text_at v (index_of at) order ≡ l → after_text l (operation_set f) ≡ through g next
          → Has (λ x. counted_pieces (extent_octets v (with_zero x.operation))) g next
      by (Ok (part, j)) q h =
          told (Has (λ x. counted_pieces (extent_octets v (with_zero x.operation)))) (operation_set f part) g j next h
          (copies (with_zero part) j (text-counted v (index_of at) order part j q))
      by (Err n) q h = clash cc

  pub principal-part : CopiesCounted v order at out r last → CopiesPart v order at out r last minor Principal
  unfolding part_read part_pieces
  principal-part copies f g next e = by (counted_at v (index_of at) order) refl e
    where
      by : (l : Option (Extent × Index)) → counted_at v (index_of at) order ≡ l → after_counted l (principal_set f) ≡ through g next
          → Has (λ x. counted_pieces (extent_octets v x.principal)) g next
      by (Some (part, j)) q h = told (Has (λ x. counted_pieces (extent_octets v x.principal))) (principal_set f part) g j next h (copies part j q)
      by None q h = clash cc

-- all parts, one after the other
module _ (v : List ℕ) (order : Order) (kind minor from : ℕ) (out : List ℕ) where
  abbrev layout : List HeaderPart
  layout = layout_of kind minor

  -- the parts that are left, and what they lead to
  pub record PartsLeft (k at : ℕ) (now : List ℕ) (f g : HeaderFields) (next : Index) : Type 0 where
    pub fields : HeaderFields
    pub others : parts_read v order minor (drop k layout) fields (index_of at) ≡ through g next
    pub leads : (r : ℕ) (last : List ℕ) → Copied order (head_pieces v order minor (drop k layout) fields (index_of at)) at next.0 now r last
        → Copied order (head_pieces v order minor layout f (index_of from)) from next.0 out r last

  abbrev pub PartsLeave : ℕ → ℕ → List ℕ → Type 0
  PartsLeave k at now = (f g : HeaderFields) (next : Index) → parts_read v order minor layout f (index_of from) ≡ through g next → PartsLeft k at now f g next

  pub leave-all : PartsLeave 0 from out
  leave-all f g next e = record { fields = f; others = e; leads = λ r last c. c }

  module _ (k at : ℕ) (now : List ℕ) where
    -- the first of those that are left, and the others
    head_first : (x : HeaderPart) (xs : List HeaderPart) (f g h : HeaderFields) (j next : Index) (r : ℕ) (mid : List ℕ) (s : ℕ) (last : List ℕ)
        → part_read v order minor x f (index_of at) ≡ through h j → Copied order (part_pieces v order minor x h) at j.0 now r mid
        → Copied order (head_pieces v order minor xs h j) j.0 next.0 mid s last
        → Copied order (head_pieces v order minor (x ∷ xs) f (index_of at)) at next.0 now s last
    unfolding head_pieces
    head_first x xs f g h j next r mid s last e a b =
        subst (λ (u : HeaderUpto). Copied order (on_head_part u (λ m i. part_pieces v order minor x m ++ head_pieces v order minor xs m i)) at
        next.0 now s last) (sym e)
        (copied-append order (part_pieces v order minor x h) (head_pieces v order minor xs h j) at j.0 next.0 now r mid s last a b)

    pub leave-fewer : (x : HeaderPart) → part_number layout k ≡ Some x → PartsLeave k at now → (r : ℕ) (mid : List ℕ) → CopiesPart v order at now r mid minor x
        → PartsLeave (k + 1) r mid
    leave-fewer x p before r mid copies f g next e =
        let l = before f g next e in
        let d = next-is x layout k p in
        let xs : List HeaderPart = drop (k + 1) layout in
        let o = ap (λ (ys : List HeaderPart). parts_read v order minor ys l.fields (index_of at)) (sym d) ∙ l.others in
        let t = first_read v order minor x xs l.fields (index_of at) g next o in
        let c = copies l.fields t.fields t.next t.part in
        record {
          fields = t.fields;
          others = ap (λ (i : ℕ). parts_read v order minor xs t.fields (index_of i)) c.ends ∙ t.others;
          leads = λ s last b.
              let m = subst (λ (i : ℕ). Copied order (head_pieces v order minor xs t.fields (index_of i)) i next.0 mid s last) c.ends b in
              l.leads s last
              (subst (λ (ys : List HeaderPart). Copied order (head_pieces v order minor ys l.fields (index_of at)) at next.0 now s last) (sym d)
              (head_first x xs l.fields g t.fields t.next next r mid s last t.part c m));
        }

    leave-empty : drop k layout ≡ [] → PartsLeave k at now → CopiesParts v order from out at now kind minor
    unfolding head_pieces
    leave-empty d before f g next e =
        let l = before f g next e in
        let o = ap (λ (ys : List HeaderPart). parts_read v order minor ys l.fields (index_of at)) (sym d) ∙ l.others in
        let a : at ≡ next.0 = ap (λ (j : Index). j.0) (none_read v order minor l.fields (index_of at) g next o).1 in
        let c = subst (λ (m : ℕ). Copied order [] at m now at now) a (copied_none order at now) in
        l.leads at now
        (subst (λ (ys : List HeaderPart). Copied order (head_pieces v order minor ys l.fields (index_of at)) at next.0 now at now) (sym d) c)

    pub leave_none : part_number layout k ≡ None → PartsLeave k at now → CopiesParts v order from out at now kind minor
    leave_none p before = leave-empty (none_is layout k p) before

    pub leave-past : 7 ≤ k → PartsLeave k at now → CopiesParts v order from out at now kind minor
    leave-past h before = leave-empty (drop_of_length-le layout {i = k} (omega (arith, at-most-seven kind minor, h))) before
