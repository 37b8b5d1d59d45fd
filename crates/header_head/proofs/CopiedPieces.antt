-- What was copied piece by piece: numbers, octets behind their count, tagged octets and lists of them.
use Rattle.std.specs.Prelude.{Option, Some, None}
use mathlib.Core.Path.{◌≡◌, refl, sym, ap, subst, ◌∙◌}
use mathlib.Core.List.{List, [], ◌∷◌, ◌++◌}
use Prim.Native.Nat.{ℕ, suc, ◌+◌, ◌-◌, ◌≤◌, ◌<◌}
use native.Mathlib.Nat.{add-zero, sub-zero, add_assoc, zero-add}
use native.Mathlib.Omega.{arith}
use lib.ListN.{length, replicate, length-append, length-replicate}
use Rattle.choices.proofs.Choices.{clash}
use Rattle.choices.proofs.Tuples.{some-pair}
use Rattle.cdr.specs.declared.Index.{Index}
use Rattle.cdr.specs.declared.Order.{Order}
use Rattle.cdr.specs.declared.Size.{Size}
use Rattle.cdr.specs.declared.Size.TheVariants.{Four}
use Rattle.cdr.specs.Align.{octets, gap, index_of}
use Rattle.cdr_text.specs.Text.{run_of}
use Rattle.cdr_text.proofs.TextEnds.{run-facts}
use Rattle.cdr_fields.specs.declared.Extent.{Extent}
use Rattle.cdr_fields.specs.Encapsulation.{start, field_of}
use Rattle.cdr_fields.specs.Extents.{extent_octets, counted_at}
use Rattle.cdr_fields.specs.Tagged.{tagged_at, on_tagged, skip_tagged}
use Rattle.cdr_fields.proofs.FieldsRead.{field-facts}
use Rattle.cdr_fields.proofs.FieldsWithin.{counted-at-facts}
use Rattle.cdr_fields.proofs.TaggedWithin.{tagged-list-facts}
use Rattle.cdr_write.specs.Pieces.{Piece, Target, target}
use Rattle.cdr_write.specs.Write.{Stored}
use Rattle.version.specs.Versions.{reserved_octets}
use Rattle.cdr_pieces.specs.PartPieces.{number_piece, run_piece, counted_pieces, tagged_pieces, on_tagged_pieces, list_pieces}
use Rattle.cdr_pieces.specs.PartPieces.{piece_octets, octets_from, Holds, Fills}
use Rattle.cdr_pieces.proofs.OctetsWritten.{piece-length, one_from, from-append, stored-holds, nothing-held, fills-append, fills-none, fills_one, fills-run}
use Rattle.header_head.specs.Inner.{Copied, CopiesReserved, CopiesNumber, CopiesCounted, CopiesTagged, CopiesEntries, CopiesList}
use Rattle.header_parts.proofs.PartFacts.{extent-length, tagged-facts}

module _ (order : Order) where
  abbrev to : Target
  to = target order start

  -- nothing, and pieces behind others
  pub copied_none : (at : ℕ) (out : List ℕ) → Copied order [] at at out at out
  unfolding octets_from
  copied_none at out = record { ends = refl; reach = sym (add-zero at); fills = fills-none to at out }

  pub copied-append : (ps qs : List Piece) (at behind next : ℕ) (out : List ℕ) (r : ℕ) (mid : List ℕ) (s : ℕ) (last : List ℕ)
      → Copied order ps at behind out r mid → Copied order qs behind next mid s last → Copied order (ps ++ qs) at next out s last
  copied-append ps qs at behind next out r mid s last a b =
      let l = ap length (from-append to at ps qs) ∙ length-append (octets_from to at ps) (octets_from to (at + length (octets_from to at ps)) qs) in
      let c = subst (λ (k : ℕ). Copied order qs k next mid s last) a.reach b in
      record {
        ends = b.ends;
        reach = omega (arith, l, c.reach);
        fills = fills-append to at out ps mid a.fills qs last c.fills;
      }

  -- the same where the second begins at the index that the first gave
  pub copied_behind : (ps qs : List Piece) (at behind next : ℕ) (out : List ℕ) (r : ℕ) (mid : List ℕ) (s : ℕ) (last : List ℕ)
      → Copied order ps at behind out r mid → Copied order qs r next mid s last → Copied order (ps ++ qs) at next out s last
  copied_behind ps qs at behind next out r mid s last a b =
      copied-append ps qs at behind next out r mid s last a (subst (λ (k : ℕ). Copied order qs k next mid s last) a.ends b)

  pub copied-run : (these : List ℕ) (at next : ℕ) → next ≡ at + length these → (out : List ℕ) (r : ℕ) → r ≡ next → (last : List ℕ) → Holds out at these last
      → Copied order (run_piece these ∷ []) at next out r last
  unfolding piece_octets
  copied-run these at next n out r e last h = record {
    ends = e;
    reach = n ∙ ap (λ (l : List ℕ). at + length l) (sym (one_from to at (run_piece these)));
    fills = fills-run to at out these last h;
  }

-- zeros up to an index that is not behind
pub no-zeros : (at end : ℕ) → end ≤ at → (out : List ℕ) → Holds out at (replicate (end - at) 0) out
no-zeros at end h out = let z : 0 ≡ end - at = omega arith in subst (λ (n : ℕ). Holds out at (replicate n 0) out) z (nothing-held out at)

module _ (v : List ℕ) (order : Order) (at : ℕ) (out : List ℕ) where
  number-reach : (size : Size) (x : ℕ) (next : Index) → field_of v (index_of at) size order ≡ Some (x, next)
      → next.0 ≡ at + length (octets_from (target order start) at (number_piece (octets size) x ∷ []))
  number-reach size x next e =
      let f = field-facts v (index_of at) size order x next e in
      let l = ap length (one_from (target order start) at (number_piece (octets size) x)) ∙ piece-length order at (octets size) x in
      f.ends
      ∙ ap (λ (k : ℕ). at + gap k (octets size) + octets size) (zero-add at)
      ∙ add_assoc at (gap at (octets size)) (octets size)
      ∙ ap (λ (k : ℕ). at + k) (sym l)

  pub number-copies : (size : Size) (x : ℕ) (next : Index) → field_of v (index_of at) size order ≡ Some (x, next) → (w : Option ℕ) (last : List ℕ)
      → Stored out at (piece_octets (target order start) at (number_piece (octets size) x)) w last → CopiesNumber v order at out next.0 last size
  number-copies size x next e w last s y j f =
      let parts = some-pair (sym e ∙ f) in
      let h = stored-holds out at (piece_octets (target order start) at (number_piece (octets size) x)) w last s in
      record {
        ends = ap (λ (k : Index). k.0) parts.1;
        reach = number-reach size y j f;
        fills =
            subst (λ (z : ℕ). Fills (target order start) (number_piece (octets size) z ∷ []) at out last) parts.0
            (fills_one (target order start) at out (number_piece (octets size) x) last h);
      }

  pub number-none : (size : Size) → field_of v (index_of at) size order ≡ None → (r : ℕ) (last : List ℕ) → CopiesNumber v order at out r last size
  number-none size e r last y j f = let q : ◌≡◌ {A = Option (ℕ × Index)} None (Some (y, j)) = sym e ∙ f in clash cc

  pub reserved-copies : (minor e : ℕ) → run_of v at (reserved_octets minor) ≡ Some e → (n : ℕ) → n ≡ reserved_octets minor → (w : Option ℕ) (last : List ℕ)
      → Stored out at (replicate n 0) w last → CopiesReserved v order at out e last minor
  reserved-copies minor e q n z w last s k f =
      let g : (Some e) ≡ Some k = sym q ∙ f in
      let a : e ≡ k = cc in
      let c = run-facts v at (reserved_octets minor) k f in
      let these : List ℕ = replicate (reserved_octets minor) 0 in
      let l = length-replicate {A = ℕ} (reserved_octets minor) 0 in
      copied-run order these at k (omega (arith, c.0, l)) out e a last
      (subst (λ (m : ℕ). Holds out at (replicate m 0) last) z (stored-holds out at (replicate n 0) w last s))

  pub reserved-none : (minor : ℕ) → run_of v at (reserved_octets minor) ≡ None → (r : ℕ) (last : List ℕ) → CopiesReserved v order at out r last minor
  reserved-none minor e r last k f = let q : None ≡ Some k = sym e ∙ f in clash cc

  -- the count, then the octets
  pub counted-copies : (part : Extent) (next : Index) → counted_at v (index_of at) order ≡ Some (part, next) → (from : ℕ) (mid : List ℕ)
      → CopiesNumber v order at out from mid Four → (these : List ℕ) → these ≡ extent_octets v part → (w : Option ℕ) (last : List ℕ)
      → Stored mid from these w last → CopiesCounted v order at out next.0 last
  counted-copies part next e from mid number these t w last s other j f =
      let parts = some-pair (sym e ∙ f) in
      let c = counted-at-facts v (index_of at) order other j f in
      let n = number other.length other.from c.count in
      let l : length (extent_octets v other) ≡ other.length = extent-length v other (omega (arith, c.ends, c.fits)) in
      let these-are : these ≡ extent_octets v other = t ∙ ap (extent_octets v) parts.0 in
      let h = subst (λ (x : List ℕ). Holds mid from x last) these-are (stored-holds mid from these w last s) in
      let there : j.0 ≡ from + length (extent_octets v other) = omega (arith, c.ends, n.ends, l) in
      let counted = subst (λ (x : ℕ). Copied order (number_piece 4 x ∷ []) at other.from.0 out from mid) (sym l) n in
      copied_behind order (number_piece 4 (length (extent_octets v other)) ∷ []) (run_piece (extent_octets v other) ∷ []) at other.from.0 j.0 out from mid
      next.0 last
      counted
      (copied-run order (extent_octets v other) from j.0 there mid next.0 (ap (λ (k : Index). k.0) parts.1) last h)

  pub counted_none : counted_at v (index_of at) order ≡ None → (r : ℕ) (last : List ℕ) → CopiesCounted v order at out r last
  counted_none e r last other j f = let q : ◌≡◌ {A = Option (Extent × Index)} None (Some (other, j)) = sym e ∙ f in clash cc

  -- the tag, then the octets behind their count
  pub tagged-copies : (behind : ℕ) (mid : List ℕ) → CopiesNumber v order at out behind mid Four → (r : ℕ) (last : List ℕ)
      → CopiesCounted v order behind mid r last → CopiesTagged v order at out r last
  tagged-copies behind mid number r last counted tag part next e =
      let t = tagged-facts v (index_of at) order tag part next e in
      let n = number tag t.behind t.tagged in
      let there = ap (λ (k : ℕ). counted_at v (index_of k) order) n.ends ∙ t.counted in
      copied_behind order (number_piece 4 tag ∷ []) (counted_pieces (extent_octets v part)) at t.behind.0 next.0 out behind mid r last n
      (counted part next there)

-- so many tagged octets, turn by turn
module _ (v : List ℕ) (order : Order) (count from : ℕ) (out : List ℕ) where
  -- the others that are left, and what they lead to
  pub record Left (k at : ℕ) (now : List ℕ) (next : Index) : Type 0 where
    pub others : skip_tagged v order (count - k) (index_of at) ≡ Some next
    pub leads : (r : ℕ) (last : List ℕ) → Copied order (list_pieces v order (count - k) (index_of at)) at next.0 now r last
        → Copied order (list_pieces v order count (index_of from)) from next.0 out r last

  abbrev pub Leaves : ℕ → ℕ → List ℕ → Type 0
  Leaves k at now = (next : Index) → skip_tagged v order count (index_of from) ≡ Some next → Left k at now next

  pub leaves_all : Leaves 0 from out
  leaves_all next e =
      let z = sub-zero count in
      record {
        others = ap (λ (n : ℕ). skip_tagged v order n (index_of from)) z ∙ e;
        leads = λ r last. subst (λ (n : ℕ). Copied order (list_pieces v order n (index_of from)) from next.0 out r last) z;
      }

  module _ (k at : ℕ) (now : List ℕ) where
    left-suc : k < count → count - k ≡ suc (count - (k + 1))
    left-suc h = omega arith

    by_one : (n : ℕ) (c : Option (ℕ × Extent × Index)) → tagged_at v (index_of at) order ≡ c → (r : ℕ) (mid : List ℕ) → CopiesTagged v order at now r mid → (next : Index)
        → on_tagged c (λ j. skip_tagged v order n j) ≡ Some next
        → ((s : ℕ) (last : List ℕ) → Copied order (on_tagged_pieces c (λ tag part j. tagged_pieces tag (extent_octets v part) ++ list_pieces v order n j)) at
        next.0 now s last
        → Copied order (list_pieces v order count (index_of from)) from next.0 out s last)
        → (skip_tagged v order n (index_of r) ≡ Some next)
        × ((s : ℕ) (last : List ℕ) → Copied order (list_pieces v order n (index_of r)) r next.0 mid s last
        → Copied order (list_pieces v order count (index_of from)) from next.0 out s last)
    by_one n (Some (tag, part, j)) e r mid copies next q leads =
        let c = copies tag part j e in (
          ap (λ (x : ℕ). skip_tagged v order n (index_of x)) c.ends ∙ q,
          λ s last d.
              let f = subst (λ (x : ℕ). Copied order (list_pieces v order n (index_of x)) x next.0 mid s last) c.ends d in
              leads s last (copied-append order (tagged_pieces tag (extent_octets v part)) (list_pieces v order n j) at j.0 next.0 now r mid s last c f),
        )
    by_one n None e r mid copies next q leads = clash cc

    pub leaves-fewer : k < count → Leaves k at now → (r : ℕ) (mid : List ℕ) → CopiesTagged v order at now r mid → Leaves (k + 1) r mid
    unfolding skip_tagged list_pieces
    leaves-fewer h before r mid copies next e =
        let l = before next e in
        let n : ℕ = count - (k + 1) in
        let z = left-suc h in
        let o = ap (λ (m : ℕ). skip_tagged v order m (index_of at)) (sym z) ∙ l.others in
        let p = by_one n (tagged_at v (index_of at) order) refl r mid copies next o
        (λ s last d. l.leads s last (subst (λ (m : ℕ). Copied order (list_pieces v order m (index_of at)) at next.0 now s last) (sym z) d)) in
        record { others = p.0; leads = p.1 }

    pub leaves_none : count ≤ k → Leaves k at now → CopiesEntries v order from out at now count
    unfolding skip_tagged list_pieces
    leaves_none h before next e =
        let l = before next e in
        let z : count - k ≡ 0 = omega arith in
        let o : (Some (index_of at)) ≡ Some next = ap (λ (m : ℕ). skip_tagged v order m (index_of at)) (sym z) ∙ l.others in
        let b : index_of at ≡ next = cc in
        let a : at ≡ next.0 = ap (λ (j : Index). j.0) b in
        let d = subst (λ (m : ℕ). Copied order [] at m now at now) a (copied_none order at now) in
        l.leads at now (subst (λ (m : ℕ). Copied order (list_pieces v order m (index_of at)) at next.0 now at now) (sym z) d)

-- a list behind its count
module _ (v : List ℕ) (order : Order) (at : ℕ) (out : List ℕ) where
  pub list-copies : (count : ℕ) (behind : Index) → field_of v (index_of at) Four order ≡ Some (count, behind) → (first : ℕ) (mid : List ℕ)
      → CopiesNumber v order at out first mid Four → (r : ℕ) (last : List ℕ) → CopiesEntries v order first mid r last count → CopiesList v order at out r last
  list-copies count behind e first mid number r last entries list next f =
      let l = tagged-list-facts v (index_of at) order list next f in
      let parts = some-pair (sym e ∙ l.count) in
      let a = parts.0 in
      let n = number list.count list.first l.count in
      let same : skip_tagged v order count (index_of first) ≡ Some next =
      ap (λ (m : ℕ). skip_tagged v order m (index_of first)) a ∙ ap (λ (m : ℕ). skip_tagged v order list.count (index_of m)) n.ends ∙ l.passed in
      let c = subst (λ (m : ℕ). Copied order (list_pieces v order m (index_of first)) first next.0 mid r last) a (entries next same) in
      let d = subst (λ (m : ℕ). Copied order (list_pieces v order list.count (index_of m)) m next.0 mid r last) n.ends c in
      copied-append order (number_piece 4 list.count ∷ []) (list_pieces v order list.count list.first) at list.first.0
      next.0 out first mid r last n d

  pub list-none : field_of v (index_of at) Four order ≡ None → (r : ℕ) (last : List ℕ) → CopiesList v order at out r last
  list-none e r last list next f =
      let l = tagged-list-facts v (index_of at) order list next f in
      let q : ◌≡◌ {A = Option (ℕ × Index)} None (Some (list.count, list.first)) = sym e ∙ l.count in
      clash cc
