-- Targets: where the pieces of one stand in w as it was read in v, w reads the same.
use Rattle.std.specs.Prelude.{Some, Result, Ok}
use mathlib.Core.Path.{◌≡◌, ap, subst, ◌∙◌}
use mathlib.Core.List.{List, [], ◌∷◌, ◌++◌}
use Prim.Native.Nat.{ℕ}
use Rattle.cdr.specs.declared.Index.{Index}
use Rattle.cdr.specs.declared.Order.{Order}
use Rattle.cdr.specs.declared.Size.TheVariants.{Two, Four}
use Rattle.cdr.specs.Number.{Octets}
use Rattle.cdr_fields.specs.declared.Extent.{Extent}
use Rattle.cdr_fields.specs.Encapsulation.{field_of}
use Rattle.cdr_fields.specs.Extents.{extent_octets}
use Rattle.cdr_fields.specs.Tagged.{tagged_list_at}
use Rattle.cdr_write.specs.Pieces.{Piece}
use Rattle.cdr_pieces.specs.PartPieces.{number_piece, counted_pieces, tagged_list_pieces}
use Rattle.header_parts.specs.declared.TargetAddress.{TargetAddress}
use Rattle.header_parts.specs.declared.TargetAddress.TheVariants.{Key, Profile}
use Rattle.header_parts.specs.Targets.{key_found, key_target, profile_found, profile_target, profiles_found, on_header_text, type_id_then, index_then, reference_target}
use Rattle.header_parts.specs.Targets.{target_of_kind, kind_then, target_at}
use Rattle.header_parts.proofs.PartFacts.{key-facts, profile-facts, reference-facts, target-facts, by-target}
use Rattle.header_head.specs.HeadPieces.{with_zero, target_kind, target_pieces}
use Rattle.header_head.proofs.CopiedParts.{kind-is}
use Rattle.header_laws.specs.Written.{SameTarget}
use Rattle.header_laws.proofs.StandsBehind.{Again, again-append, again-so, number-again}
use Rattle.header_laws.proofs.FieldsAgain.{Rereads, counted-again, text-again, tagged-again, list-again}
use Rattle.header_parts.specs.declared.Refusal.{Refusal}

module _ (v : List ℕ) (small : Octets v) (order : Order) (w : List ℕ) where
  -- a target that a reading gave
  abbrev TargetAgain : (List ℕ → Result (TargetAddress × Index) Refusal) → TargetAddress → Index → Index → Type 0
  TargetAgain reading t i next = Rereads v small order w reading (Ok (t, next)) (λ x. target_pieces x order t) (SameTarget v w order t) i next

  pub key-again : (i : Index) (t : TargetAddress) (next : Index) → key_target v i order ≡ Ok (t, next) → TargetAgain (λ x. key_target x i order) t i next
  unfolding key_target
  key-again i t next e =
      let k = key-facts v i order t next e in
      subst (λ (u : TargetAddress). TargetAgain (λ x. key_target x i order) u i next) k.said
      (again-so order w i next (target_pieces v order (Key k.octets)) _ _
      (λ s. record { reads = ap key_found s.reads; pieces = s.pieces; same = s.same })
      (counted-again v small order w i k.octets next k.counted))

  profile-again : (i : Index) (t : TargetAddress) (next : Index) → profile_target v i order ≡ Ok (t, next) → TargetAgain (λ x. profile_target x i order) t i next
  unfolding profile_target
  profile-again i t next e =
      let k = profile-facts v i order t next e in
      subst (λ (u : TargetAddress). TargetAgain (λ x. profile_target x i order) u i next) k.said
      (again-so order w i next (target_pieces v order (Profile k.tag k.octets)) _ _
      (λ s. record { reads = ap profile_found s.reads; pieces = s.pieces; same = s.same })
      (tagged-again v small order w i k.tag k.octets next k.tagged))

  reference-again : (i : Index) (t : TargetAddress) (next : Index) → reference_target v i order ≡ Ok (t, next) → TargetAgain (λ x. reference_target x i order) t i next
  unfolding reference_target type_id_then
  reference-again i t next e =
      let k = reference-facts v i order t next e in
      let text_of : List ℕ → List Piece = λ x. counted_pieces (extent_octets x (with_zero k.id)) in
      let list_of : List ℕ → List Piece = λ x. tagged_list_pieces x order k.profiles in
      subst (λ (u : TargetAddress). TargetAgain (λ x. reference_target x i order) u i next) k.said
      (again-so order w i next (number_piece 4 k.index ∷ (text_of v ++ list_of v)) _ _
      (λ s. record {
        reads = ap (index_then w order) s.0
            ∙ ap (λ (p : Result (Extent × Index) Refusal). on_header_text p (λ (id : Extent) (j : Index). profiles_found k.index id (tagged_list_at w j order))) s.1.0.reads
            ∙ ap (profiles_found k.index k.id) s.1.1.reads;
        pieces = ap (λ (ps : List Piece). number_piece 4 k.index ∷ (ps ++ list_of w)) s.1.0.pieces
            ∙ ap (λ (ps : List Piece). number_piece 4 k.index ∷ (text_of v ++ ps)) s.1.1.pieces;
        same = (s.1.0.same, s.1.1.same);
      })
      (again-append order w i k.behind next (number_piece 4 k.index ∷ []) (text_of v ++ list_of v) _ _
      (number-again order w v small i Four k.index k.behind k.indexed)
      (again-append order w k.behind k.listed next (text_of v) (list_of v) _ _
      (text-again v small order w k.behind k.id k.listed k.named)
      (list-again v small order w k.listed k.profiles next k.list))))

  of-kind-again : (kind : ℕ) (i : Index) (t : TargetAddress) (next : Index) → target_of_kind v kind i order ≡ Ok (t, next)
      → TargetAgain (λ x. target_of_kind x kind i order) t i next
  of-kind-again kind i t next e =
      by-target v i order (λ (k : ℕ). TargetAgain (λ x. target_of_kind x k i order) t i next) kind t next e (key-again i t next) (profile-again i t next)
      (reference-again i t next)

  pub target-again : (i : Index) (t : TargetAddress) (next : Index) → target_at v i order ≡ Ok (t, next)
      → Rereads v small order w (λ x. target_at x i order) (Ok (t, next)) (λ x. number_piece 2 (target_kind t) ∷ target_pieces x order t)
      (SameTarget v w order t) i next
  unfolding target_at
  target-again i t next e =
      let k = target-facts v i order t next e in
      let named : k.kind ≡ target_kind t = kind-is v order k.behind k.kind t next k.target in
      let kinds : Again order w i k.behind (number_piece 2 (target_kind t) ∷ []) (field_of w i Two order ≡ Some (k.kind, k.behind)) =
      subst (λ (n : ℕ). Again order w i k.behind (number_piece 2 n ∷ []) (field_of w i Two order ≡ Some (k.kind, k.behind))) named
      (number-again order w v small i Two k.kind k.behind k.field) in
      again-so order w i next (number_piece 2 (target_kind t) ∷ target_pieces v order t) _ _
      (λ s. record {
        reads = ap (kind_then w order) s.0 ∙ s.1.reads;
        pieces = ap (λ (ps : List Piece). number_piece 2 (target_kind t) ∷ ps) s.1.pieces;
        same = s.1.same;
      })
      (again-append order w i k.behind next (number_piece 2 (target_kind t) ∷ []) (target_pieces v order t) _ _ kinds
      (of-kind-again k.kind k.behind t next k.target))
