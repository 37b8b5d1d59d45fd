-- The parts of a header, one after the other: where their pieces stand in w as they were read in v, w reads the same.
use Rattle.std.specs.Prelude.{Option, Some, None, Result, Ok, Err}
use mathlib.Core.Path.{◌≡◌, refl, sym, ap, subst, ◌∙◌}
use mathlib.Core.List.{List, [], ◌∷◌, ◌++◌}
use Prim.Native.Nat.{ℕ}
use native.Mathlib.Omega.{arith}
use lib.ListN.{length, replicate, length-replicate}
use Rattle.choices.proofs.Choices.{clash}
use Rattle.cdr.specs.declared.Index.{Index}
use Rattle.cdr.specs.declared.Order.{Order}
use Rattle.cdr.specs.declared.Size.TheVariants.{One, Four}
use Rattle.cdr.specs.Align.{index_of}
use Rattle.cdr.specs.Number.{Octets}
use Rattle.cdr_text.specs.Text.{run_of}
use Rattle.cdr_text.proofs.TextEnds.{run-facts, run-to}
use Rattle.cdr_fields.specs.Encapsulation.{field_of}
use Rattle.cdr_fields.specs.Extents.{extent_octets, counted_at}
use Rattle.cdr_fields.specs.Tagged.{tagged_list_at}
use Rattle.cdr_write.specs.Pieces.{Piece}
use Rattle.version.specs.Versions.{reserved_octets}
use Rattle.header_layout.specs.declared.HeaderPart.{HeaderPart}
use Rattle.header_layout.specs.declared.HeaderPart.TheVariants.{Contexts, Id, Response, Reserved, Key, Target as Addressed, Operation, Principal, Status}
use Rattle.header_parts.specs.Parts.{response_from, response_at, status_from, status_at, header_text_at}
use Rattle.header_parts.specs.Targets.{key_target, target_at}
use Rattle.header_parts.proofs.PartFacts.{response-field, status-field}
use Rattle.header_reading.specs.Reading.{HeaderFields, no_fields, HeaderUpto, through, part_read, on_part, parts_read}
use Rattle.header_reading.specs.Reading.{after_field, after_number, after_list, after_counted, after_text, after_target, after_reserved}
use Rattle.header_reading.specs.Reading.{contexts_set, id_set, response_set, target_set, operation_set, principal_set, status_set}
use Rattle.header.proofs.HeadersWithin.{first_read, none_read}
use Rattle.header_head.specs.HeadPieces.{part_pieces, on_head_part, head_pieces}
use Rattle.header_laws.specs.Written.{SameOctets}
use Rattle.header_laws.proofs.StandsBehind.{Again, again-none, again-append, again-so, run-again, number-again}
use Rattle.header_laws.proofs.FieldsAgain.{Told, Rereads, counted-again, text-again, list-again}
use Rattle.header_laws.proofs.TargetsAgain.{key-again, target-again}
use Rattle.cdr_fields.specs.declared.Extent.{Extent}
use Rattle.cdr_fields.specs.declared.TaggedList.{TaggedList}
use Rattle.header_parts.specs.declared.Refusal.{Refusal}
use Rattle.header_parts.specs.declared.TargetAddress.{TargetAddress}

-- the octets that fields tell are the same in both
abbrev pub SameFields : List ℕ → List ℕ → Order → HeaderFields → Type 0
SameFields v w order f = SameOctets v w order f.target f.operation f.principal f.contexts

pub none-same : (v w : List ℕ) (order : Order) → SameFields v w order no_fields
unfolding extent_octets
none-same v w order = record { target = refl; operation = refl; principal = refl; contexts = λ n h. absurd (omega (arith, h)) }

module _ (v : List ℕ) (small : Octets v) (order : Order) (w : List ℕ) (minor : ℕ) where
  -- what w tells of a part that v read from f at i to g at next
  abbrev PartTold : HeaderPart → HeaderFields → Index → HeaderFields → Index → Type 0
  PartTold x f i g next =
      Told (part_read w order minor x f i) (through g next) (part_pieces w order minor x g) (part_pieces v order minor x g)
      (SameFields v w order f → SameFields v w order g)

  abbrev PartAgain : HeaderPart → HeaderFields → Index → HeaderFields → Index → Type 0
  PartAgain x f i g next = Again order w i next (part_pieces v order minor x g) (PartTold x f i g next)

  -- by the fields and the index that the part gave, and what its pieces told
  given : (x : HeaderPart) (f : HeaderFields) (i : Index) (h g : HeaderFields) (j next : Index) → through h j ≡ through g next
      → (R : Type 0) → Again order w i j (part_pieces v order minor x h) R → (R → PartTold x f i h j) → PartAgain x f i g next
  given x f i h g j next e R again so =
      let a : h ≡ g = cc in
      let b : j ≡ next = cc in
      subst (PartAgain x f i g) b
      (subst (λ (k : HeaderFields). PartAgain x f i k j) a (again-so order w i j (part_pieces v order minor x h) R (PartTold x f i h j) so again))

  module _ (f : HeaderFields) (i : Index) (g : HeaderFields) (next : Index) where
    in_list : (l : Option (TaggedList × Index)) → tagged_list_at v i order ≡ l → after_list l (contexts_set f) ≡ through g next → PartAgain Contexts f i g next
    unfolding part_read part_pieces
    in_list (Some (list, j)) q e =
        given Contexts f i (contexts_set f list) g j next e _ (list-again v small order w i list j q)
        (λ t. record {
          reads = ap (λ (l : Option (TaggedList × Index)). after_list l (contexts_set f)) t.reads;
          pieces = t.pieces;
          same = λ s. record { target = s.target; operation = s.operation; principal = s.principal; contexts = t.same };
        })
    in_list None q e = clash cc

    in_field : (l : Option (ℕ × Index)) → field_of v i Four order ≡ l → after_field l (id_set f) ≡ through g next → PartAgain Id f i g next
    unfolding part_read part_pieces
    in_field (Some (x, j)) q e =
        given Id f i (id_set f x) g j next e _ (number-again order w v small i Four x j q)
        (λ t. record { reads = ap (λ (l : Option (ℕ × Index)). after_field l (id_set f)) t; pieces = refl; same = λ s. s })
    in_field None q e = clash cc

    in-response : (l : Result (ℕ × Index) Refusal) → response_at v i order minor ≡ l → after_number l (response_set f) ≡ through g next → PartAgain Response f i g next
    unfolding part_read part_pieces response_at
    in-response (Ok (x, j)) q e =
        let there = response-field v i order minor x j q in
        given Response f i (response_set f x) g j next e _ (number-again order w v small i One x j there)
        (λ t. record {
          reads = ap (λ (l : Result (ℕ × Index) Refusal). after_number l (response_set f)) (ap (response_from minor) (t ∙ sym there) ∙ q);
          pieces = refl;
          same = λ s. s;
        })
    in-response (Err r) q e = clash cc

    in-status : (l : Result (ℕ × Index) Refusal) → status_at v i order minor ≡ l → after_number l (status_set f) ≡ through g next → PartAgain Status f i g next
    unfolding part_read part_pieces status_at
    in-status (Ok (x, j)) q e =
        let there = status-field v i order minor x j q in
        given Status f i (status_set f x) g j next e _ (number-again order w v small i Four x j there)
        (λ t. record {
          reads = ap (λ (l : Result (ℕ × Index) Refusal). after_number l (status_set f)) (ap (status_from minor) (t ∙ sym there) ∙ q);
          pieces = refl;
          same = λ s. s;
        })
    in-status (Err r) q e = clash cc

    in-reserved : (l : Option ℕ) → run_of v i.0 (reserved_octets minor) ≡ l → after_reserved l f ≡ through g next → PartAgain Reserved f i g next
    unfolding part_read part_pieces
    in-reserved (Some k) q e =
        let n : ℕ = reserved_octets minor in
        let zeros : List ℕ = replicate n 0 in
        let l : length zeros ≡ n = length-replicate n 0 in
        let c = run-facts v i.0 n k q in
        given Reserved f i f g (index_of k) next e _ (run-again order w i (index_of k) zeros (omega (arith, c.0, l)))
        (λ t. record {
          reads = ap (λ (r : Option ℕ). after_reserved r f) (run-to w i.0 n (omega (arith, t.0, l)) ∙ ap Some (sym c.0));
          pieces = refl;
          same = λ s. s;
        })
    in-reserved None q e = clash cc

    in-key : (l : Result (TargetAddress × Index) Refusal) → key_target v i order ≡ l → after_target l (target_set f) ≡ through g next → PartAgain Key f i g next
    unfolding part_read part_pieces
    in-key (Ok (u, j)) q e =
        given Key f i (target_set f u) g j next e _ (key-again v small order w i u j q)
        (λ t. record {
          reads = ap (λ (l : Result (TargetAddress × Index) Refusal). after_target l (target_set f)) t.reads;
          pieces = t.pieces;
          same = λ s. record { target = t.same; operation = s.operation; principal = s.principal; contexts = s.contexts };
        })
    in-key (Err r) q e = clash cc

    in-target : (l : Result (TargetAddress × Index) Refusal) → target_at v i order ≡ l → after_target l (target_set f) ≡ through g next → PartAgain Addressed f i g next
    unfolding part_read part_pieces
    in-target (Ok (u, j)) q e =
        given Addressed f i (target_set f u) g j next e _ (target-again v small order w i u j q)
        (λ t. record {
          reads = ap (λ (l : Result (TargetAddress × Index) Refusal). after_target l (target_set f)) t.reads;
          pieces = t.pieces;
          same = λ s. record { target = t.same; operation = s.operation; principal = s.principal; contexts = s.contexts };
        })
    in-target (Err r) q e = clash cc

    in-text : (l : Result (Extent × Index) Refusal) → header_text_at v i order ≡ l → after_text l (operation_set f) ≡ through g next → PartAgain Operation f i g next
    unfolding part_read part_pieces
    in-text (Ok (part, j)) q e =
        given Operation f i (operation_set f part) g j next e _ (text-again v small order w i part j q)
        (λ t. record {
          reads = ap (λ (l : Result (Extent × Index) Refusal). after_text l (operation_set f)) t.reads;
          pieces = t.pieces;
          same = λ s. record { target = s.target; operation = t.same; principal = s.principal; contexts = s.contexts };
        })
    in-text (Err r) q e = clash cc

    in-counted : (l : Option (Extent × Index)) → counted_at v i order ≡ l → after_counted l (principal_set f) ≡ through g next → PartAgain Principal f i g next
    unfolding part_read part_pieces
    in-counted (Some (part, j)) q e =
        given Principal f i (principal_set f part) g j next e _ (counted-again v small order w i part j q)
        (λ t. record {
          reads = ap (λ (l : Option (Extent × Index)). after_counted l (principal_set f)) t.reads;
          pieces = t.pieces;
          same = λ s. record { target = s.target; operation = s.operation; principal = t.same; contexts = s.contexts };
        })
    in-counted None q e = clash cc

    part-again : (x : HeaderPart) → part_read v order minor x f i ≡ through g next → PartAgain x f i g next
    unfolding part_read
    part-again Contexts e = in_list (tagged_list_at v i order) refl e
    part-again Id e = in_field (field_of v i Four order) refl e
    part-again Response e = in-response (response_at v i order minor) refl e
    part-again Reserved e = in-reserved (run_of v i.0 (reserved_octets minor)) refl e
    part-again Key e = in-key (key_target v i order) refl e
    part-again Addressed e = in-target (target_at v i order) refl e
    part-again Operation e = in-text (header_text_at v i order) refl e
    part-again Principal e = in-counted (counted_at v i order) refl e
    part-again Status e = in-status (status_at v i order minor) refl e

  -- parts one after the other
  abbrev pub PartsAgain : List HeaderPart → HeaderFields → Index → HeaderFields → Index → Type 0
  PartsAgain xs f i g next =
      Rereads v small order w (λ y. parts_read y order minor xs f i) (through g next) (λ y. head_pieces y order minor xs f i)
      (SameFields v w order f → SameFields v w order g) i next

  first-again : (x : HeaderPart) (xs : List HeaderPart) (f : HeaderFields) (i : Index) (h : HeaderFields) (j : Index) (g : HeaderFields) (next : Index)
      → part_read v order minor x f i ≡ through h j → PartsAgain xs h j g next → PartsAgain (x ∷ xs) f i g next
  unfolding parts_read head_pieces
  first-again x xs f i h j g next e others =
      let pieces_in : List ℕ → HeaderUpto → List Piece =
      λ y u. on_head_part u (λ k m. part_pieces y order minor x k ++ head_pieces y order minor xs k m) in
      let ps : List Piece = part_pieces v order minor x h in
      let qs : List Piece = head_pieces v order minor xs h j in
      subst (λ (rs : List Piece). Again order w i next rs
      (Told (parts_read w order minor (x ∷ xs) f i) (through g next) (head_pieces w order minor (x ∷ xs) f i) rs
      (SameFields v w order f → SameFields v w order g))) (sym (ap (pieces_in v) e))
      (again-so order w i next (ps ++ qs) _ _
      (λ t. record {
        reads = ap (λ (u : HeaderUpto). on_part u (λ (k : HeaderFields) (m : Index). parts_read w order minor xs k m)) t.0.reads ∙ t.1.reads;
        pieces = ap (pieces_in w) t.0.reads
            ∙ ap (λ (rs : List Piece). rs ++ head_pieces w order minor xs h j) t.0.pieces
            ∙ ap (λ (rs : List Piece). ps ++ rs) t.1.pieces;
        same = λ s. t.1.same (t.0.same s);
      })
      (again-append order w i j next ps qs _ _ (part-again f i h j x e) others))

  pub parts_again : (xs : List HeaderPart) (f : HeaderFields) (i : Index) (g : HeaderFields) (next : Index) → parts_read v order minor xs f i ≡ through g next
      → PartsAgain xs f i g next
  unfolding parts_read head_pieces
  parts_again [] f i g next e =
      let n = none_read v order minor f i g next e in
      subst (PartsAgain [] f i g) n.1
      (subst (λ (h : HeaderFields). PartsAgain [] f i h i) n.0 (again-none order w i _ (record { reads = refl; pieces = refl; same = λ s. s })))
  parts_again (x ∷ xs) f i g next e =
      let r = first_read v order minor x xs f i g next e in
      first-again x xs f i r.fields r.next g next r.part (parts_again xs r.fields r.next g next r.others)
