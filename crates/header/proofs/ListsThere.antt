-- The contexts of a header that was read, and the profiles of its target, are all there: 69 is the only refusal left to a number.
use Rattle.std.specs.Prelude.{Option, Some, None, Result, Ok, Err}
use mathlib.Core.Path.{◌≡◌, refl, sym, ap, subst, ◌∙◌}
use mathlib.Core.List.{List, [], ◌∷◌}
use Prim.Native.Nat.{ℕ, ◌<◌}
use native.Mathlib.Omega.{arith}
use Rattle.choices.proofs.Choices.{clash}
use Rattle.cdr.specs.declared.Index.{Index}
use Rattle.cdr.specs.declared.Order.{Order}
use Rattle.cdr.specs.declared.Size.TheVariants.{Four}
use Rattle.cdr.specs.Align.{index_of}
use Rattle.cdr_text.specs.Text.{run_of}
use Rattle.cdr_fields.specs.declared.TaggedList.{TaggedList}
use Rattle.cdr_fields.specs.Encapsulation.{start, field_of}
use Rattle.cdr_fields.specs.Extents.{counted_at}
use Rattle.cdr_fields.specs.Tagged.{skip_tagged, tagged_list_at}
use Rattle.cdr_fields.proofs.TaggedWithin.{skip-none, each_stands, behind-is, tagged-inside, tagged-list-facts}
use Rattle.version.specs.Versions.{reserved_octets}
use Rattle.header_layout.specs.declared.HeaderPart.{HeaderPart}
use Rattle.header_layout.specs.declared.HeaderPart.TheVariants.{Contexts, Id, Response, Reserved, Key, Target as Addressed, Operation, Principal, Status}
use Rattle.header_layout.specs.Layout.{layout_of}
use Rattle.header_parts.specs.declared.TargetAddress.{TargetAddress}
use Rattle.header_parts.specs.Parts.{response_at, status_at, header_text_at}
use Rattle.header_parts.specs.Targets.{key_target, target_of_kind, target_at}
use Rattle.header_parts.proofs.PartFacts.{key-facts, profile-facts, reference-facts, target-facts, by-target}
use Rattle.header.specs.declared.RequestHeader.{RequestHeader}
use Rattle.header.specs.declared.ReplyHeader.{ReplyHeader}
use Rattle.header_reading.specs.Reading.{HeaderFields, no_fields, through, part_read, parts_read}
use Rattle.header_reading.specs.Reading.{after_field, after_number, after_list, after_counted, after_text, after_target, after_reserved}
use Rattle.header_reading.specs.Reading.{contexts_set, id_set, response_set, target_set, operation_set, principal_set, status_set}
use Rattle.header.specs.Header.{header_start}
use Rattle.header.specs.Numbered.{numbered_tag, profiles_in}
use Rattle.header.specs.Within.{HeaderParts, NumberedWithin, ContextsAll, ContextsOfReplies, ProfilesAll}
use Rattle.header.proofs.HeadersRead.{numbered_is, context-is, profile-is}
use Rattle.header.proofs.HeadersWithin.{first_read, none_read, calls-within, answers-within}
use Rattle.cdr_fields.specs.declared.Extent.{Extent}
use Rattle.header.specs.declared.MessageHeader.TheVariants.{Answered, Called}
use Rattle.header_parts.specs.declared.Refusal.{Refusal}

module _ (v : List ℕ) (order : Order) where
  -- a list whose tagged octets are all there, and those of a header
  record Passed (list : TaggedList) : Type 0 where
    end : Index
    passed : skip_tagged v order list.count list.first ≡ Some end

  record Lists (f : HeaderFields) : Type 0 where
    contexts : Passed f.contexts
    profiles : Passed (profiles_in f.target)

  no-list : Passed no_fields.contexts
  no-list = record { end = start; passed = skip-none v order start }

  none_yet : Lists no_fields
  none_yet = record { contexts = no-list; profiles = no-list }

  numbered-there : (list : TaggedList) → Passed list → (n : ℕ) → n < list.count → NumberedWithin v (numbered_tag v list order n)
  numbered-there list p n h =
      let s = each_stands v order n list.count list.first p.end h p.passed in
      let t = behind-is v order list.first n (Some s.at) s.passed ∙ s.there in
      let f = tagged-inside v s.at order s.tag s.octets s.next s.there in
      record {
        tag = s.tag;
        octets = s.octets;
        answer = numbered_is v list order n h (Some (s.tag, s.octets, s.next)) t;
        within = omega (arith, f.0, f.1);
      }

  -- the profiles of a target that was read
  key-lists : (i : Index) (t : TargetAddress) (next : Index) → key_target v i order ≡ Ok (t, next) → Passed (profiles_in t)
  key-lists i t next e = subst (λ (u : TargetAddress). Passed (profiles_in u)) (key-facts v i order t next e).said no-list

  kind-lists : (i : Index) (kind : ℕ) (t : TargetAddress) (next : Index) → target_of_kind v kind i order ≡ Ok (t, next) → Passed (profiles_in t)
  kind-lists i kind t next e =
      by-target v i order (λ (k : ℕ). Passed (profiles_in t)) kind t next e (key-lists i t next)
      (λ q. subst (λ (u : TargetAddress). Passed (profiles_in u)) (profile-facts v i order t next q).said no-list)
      (λ q.
      let r = reference-facts v i order t next q in
      let l = tagged-list-facts v r.listed order r.profiles next r.list in
      subst (λ (u : TargetAddress). Passed (profiles_in u)) r.said (record { end = next; passed = l.passed }))

  target-lists : (i : Index) (t : TargetAddress) (next : Index) → target_at v i order ≡ Ok (t, next) → Passed (profiles_in t)
  target-lists i t next e = let r = target-facts v i order t next e in kind-lists r.behind r.kind t next r.target

  -- each part keeps them
  module _ (minor : ℕ) (f g : HeaderFields) (i j : Index) (p : Lists f) where
    kept : (h : HeaderFields) (k : Index) → through h k ≡ through g j → Lists h → Lists g
    kept h k e l = let a : h ≡ g = cc in subst Lists a l

    of-contexts : (r : Option (TaggedList × Index)) → tagged_list_at v i order ≡ r → after_list r (contexts_set f) ≡ through g j → Lists g
    of-contexts (Some (list, next)) q e =
        let l = tagged-list-facts v i order list next q in
        kept (contexts_set f list) next e (record { contexts = record { end = next; passed = l.passed }; profiles = p.profiles })
    of-contexts None q e = clash cc

    of-target : (r : Result (TargetAddress × Index) Refusal) → ((t : TargetAddress) (next : Index) → r ≡ Ok (t, next) → Passed (profiles_in t)) → after_target r (target_set f) ≡ through g j
        → Lists g
    of-target (Ok (t, next)) q e = kept (target_set f t) next e (record { contexts = p.contexts; profiles = q t next refl })
    of-target (Err r) q e = clash cc

    of_field : (r : Option (ℕ × Index)) → after_field r (id_set f) ≡ through g j → Lists g
    of_field (Some (x, next)) e = kept (id_set f x) next e (record { contexts = p.contexts; profiles = p.profiles })
    of_field None e = clash cc

    of-response : (r : Result (ℕ × Index) Refusal) → after_number r (response_set f) ≡ through g j → Lists g
    of-response (Ok (x, next)) e = kept (response_set f x) next e (record { contexts = p.contexts; profiles = p.profiles })
    of-response (Err r) e = clash cc

    of-status : (r : Result (ℕ × Index) Refusal) → after_number r (status_set f) ≡ through g j → Lists g
    of-status (Ok (x, next)) e = kept (status_set f x) next e (record { contexts = p.contexts; profiles = p.profiles })
    of-status (Err r) e = clash cc

    of-reserved : (r : Option ℕ) → after_reserved r f ≡ through g j → Lists g
    of-reserved (Some e) q = kept f (index_of e) q p
    of-reserved None q = clash cc

    of-operation : (r : Result (Extent × Index) Refusal) → after_text r (operation_set f) ≡ through g j → Lists g
    of-operation (Ok (x, next)) e = kept (operation_set f x) next e (record { contexts = p.contexts; profiles = p.profiles })
    of-operation (Err r) e = clash cc

    of-principal : (r : Option (Extent × Index)) → after_counted r (principal_set f) ≡ through g j → Lists g
    of-principal (Some (x, next)) e = kept (principal_set f x) next e (record { contexts = p.contexts; profiles = p.profiles })
    of-principal None e = clash cc

    part-lists : (x : HeaderPart) → part_read v order minor x f i ≡ through g j → Lists g
    unfolding part_read
    part-lists Contexts e = of-contexts (tagged_list_at v i order) refl e
    part-lists Id e = of_field (field_of v i Four order) e
    part-lists Response e = of-response (response_at v i order minor) e
    part-lists Reserved e = of-reserved (run_of v i.0 (reserved_octets minor)) e
    part-lists Key e = of-target (key_target v i order) (key-lists i) e
    part-lists Addressed e = of-target (target_at v i order) (target-lists i) e
    part-lists Operation e = of-operation (header_text_at v i order) e
    part-lists Principal e = of-principal (counted_at v i order) e
    part-lists Status e = of-status (status_at v i order minor) e

  parts-list : (minor : ℕ) (xs : List HeaderPart) (f : HeaderFields) (i : Index) (g : HeaderFields) (j : Index) → Lists f
      → parts_read v order minor xs f i ≡ through g j → Lists g
  parts-list minor [] f i g j p e = subst Lists (none_read v order minor f i g j e).0 p
  parts-list minor (x ∷ xs) f i g j p e =
      let r = first_read v order minor x xs f i g j e in
      parts-list minor xs r.fields r.next g j (part-lists minor f r.fields i r.next p x r.part) r.others

lists_of : (v : List ℕ) (kind : ℕ) (order : Order) (minor body : ℕ) (p : HeaderParts v kind order minor body) → Lists v order p.fields
lists_of v kind order minor body p =
    parts-list v order minor (layout_of kind minor) no_fields header_start p.fields p.end (none_yet v order) p.reads

pub contexts-all : ContextsAll
contexts-all v q e n h =
    let w = calls-within v q e in
    let l = lists_of v 0 q.order q.minor q.body w.parts in
    let c = subst (Passed v q.order) (ap (λ (x : RequestHeader). x.contexts) w.said) l.contexts in
    subst (NumberedWithin v) (sym (context-is v n (Ok (Called q)) e)) (numbered-there v q.order q.contexts c n h)

pub contexts-of-replies : ContextsOfReplies
contexts-of-replies v a e n h =
    let w = answers-within v a e in
    let l = lists_of v 1 a.order a.minor a.body w.parts in
    let c = subst (Passed v a.order) (ap (λ (x : ReplyHeader). x.contexts) w.said) l.contexts in
    subst (NumberedWithin v) (sym (context-is v n (Ok (Answered a)) e)) (numbered-there v a.order a.contexts c n h)

pub profiles-all : ProfilesAll
profiles-all v q e n h =
    let w = calls-within v q e in
    let l = lists_of v 0 q.order q.minor q.body w.parts in
    let c = subst (λ (t : TargetAddress). Passed v q.order (profiles_in t)) (ap (λ (x : RequestHeader). x.target) w.said) l.profiles in
    subst (NumberedWithin v) (sym (profile-is v n (Ok (Called q)) e)) (numbered-there v q.order (profiles_in q.target) c n h)
