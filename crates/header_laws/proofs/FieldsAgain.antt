-- Octets behind their count, texts, tagged octets and lists of them: where their pieces stand in w as they were read in v, w reads the same.
use Rattle.std.specs.Prelude.{Option, Some, None, Result, Ok}
use mathlib.Core.Path.{◌≡◌, refl, sym, ap, subst, ◌∙◌}
use mathlib.Core.List.{List, [], ◌∷◌, ◌++◌}
use Prim.Native.Nat.{ℕ, zero, suc, ◌+◌, ◌≤◌, ◌<◌}
use native.Mathlib.Omega.{arith}
use borrow.Author.Tests.{lt-leb, le-ltb}
use lib.ListN.{length, take, drop}
use lib.Seq.{take-take}
use Rattle.choices.specs.Branch.{choose}
use Rattle.choices.proofs.Choices.{clash}
use Rattle.cdr.specs.declared.Index.{Index}
use Rattle.cdr.specs.declared.Order.{Order}
use Rattle.cdr.specs.declared.Size.TheVariants.{Four}
use Rattle.cdr.specs.Align.{index_of}
use Rattle.cdr.specs.Number.{Octets}
use Rattle.cdr_text.specs.Text.{text_of}
use Rattle.cdr_text.proofs.TextEnds.{run-to}
use Rattle.cdr_fields.specs.declared.Extent.{Extent}
use Rattle.cdr_fields.specs.declared.TaggedList.{TaggedList}
use Rattle.cdr_fields.specs.Encapsulation.{field_of, string_of, counted_of}
use Rattle.cdr_fields.specs.Extents.{extent_octets, string_upto, string_at, counted_at}
use Rattle.cdr_fields.specs.Tagged.{tagged_at, on_tagged, skip_tagged, tagged_after, tagged_behind, tagged_list_at}
use Rattle.cdr_fields.proofs.FieldsRead.{string-is, counted_is}
use Rattle.cdr_fields.proofs.FieldsWithin.{counted-at-is, counted-at-facts}
use Rattle.cdr_fields.proofs.TaggedWithin.{tagged_is, tagged-list-is, tagged-list-facts}
use Rattle.cdr_write.specs.Pieces.{Piece}
use Rattle.cdr_pieces.specs.PartPieces.{number_piece, run_piece, counted_pieces, tagged_pieces, on_tagged_pieces, list_pieces, tagged_list_pieces}
use Rattle.header_parts.specs.Parts.{header_text, header_text_at}
use Rattle.header_parts.proofs.PartFacts.{extent-length, text-counted, tagged-facts}
use Rattle.header.specs.Numbered.{numbered_found, numbered_tag}
use Rattle.header_head.specs.HeadPieces.{with_zero}
use Rattle.header_laws.specs.Written.{SameIn, SameList}
use Rattle.header_laws.proofs.StandsBehind.{Again, again-none, again-append, again-so, run-again, number-again}
use Rattle.cdr_fields.specs.declared.StringFault.{StringFault}

-- what a reading gives, the pieces of it, and what else is the same
pub record Told {A : Type 0} (reading answer : A) (its these : List Piece) (P : Type 0) : Type 0 where
  pub reads : reading ≡ answer
  pub pieces : its ≡ these
  pub same : P

-- counted octets that are there
module _ (v : List ℕ) (i : Index) (order : Order) where
  counted-there : (n : ℕ) (from : Index) → field_of v i Four order ≡ Some (n, from) → from.0 + n ≤ length v → counted_of v i order ≡ Some (from, n)
  counted-there n from e h = counted_is v i order n from e (Some (from.0 + n)) (run-to v from.0 n h)

  counted-of : (part : Extent) (next : Index) → counted_at v i order ≡ Some (part, next) → counted_of v i order ≡ Some (part.from, part.length)
  counted-of part next e =
      let c = counted-at-facts v i order part next e in
      counted-there part.length part.from c.count (omega (arith, c.ends, c.fits))

-- the octets of a text without its zero
without-zero : (v w : List ℕ) (part : Extent) → SameIn v w (with_zero part) → SameIn v w part
unfolding extent_octets
without-zero v w part e =
    let n : ℕ = part.length in
    let le : n ≤ n + 1 = omega arith in
    sym (take-take n (n + 1) (drop part.from.0 w) le) ∙ ap (take n) e ∙ take-take n (n + 1) (drop part.from.0 v) le

-- a text by its octets
text-alike : (v w : List ℕ) (at n : ℕ) → at + n ≤ length v → at + n ≤ length w → take n (drop at w) ≡ take n (drop at v) → text_of w at n 0 ≡ text_of v at n 0
unfolding text_of
text-alike v w at n h k e = rw (le-ltb (length v) (at + n) h, le-ltb (length w) (at + n) k, e)

module _ (v w : List ℕ) (i : Index) (order : Order) where
  string-alike : (part : Extent) (next : Index) → counted_at v i order ≡ Some (part, next) → counted_at w i order ≡ Some (part, next) → SameIn v w part
      → string_of w i order ≡ string_of v i order
  unfolding extent_octets
  string-alike part next e f s =
      let a = counted-at-facts v i order part next e in
      let b = counted-at-facts w i order part next f in
      let n : ℕ = part.length in
      let at : ℕ = part.from.0 in
      let t = text-alike v w at n (omega (arith, a.ends, a.fits)) (omega (arith, b.ends, b.fits)) s in
      string-is w i order n part.from b.count (text_of v at n 0) t ∙ sym (string-is v i order n part.from a.count (text_of v at n 0) refl)

  header-text-alike : string_of w i order ≡ string_of v i order → header_text_at w i order ≡ header_text_at v i order
  unfolding header_text_at string_at
  header-text-alike e = ap (λ (s : Result (Index × ℕ) StringFault). header_text (string_upto s)) e

module _ (v : List ℕ) (small : Octets v) (order : Order) (w : List ℕ) where
  -- where its pieces stand in w, a reading of w gives the same answer and the same pieces
  abbrev pub Rereads : {A : Type 0} → (List ℕ → A) → A → (List ℕ → List Piece) → Type 0 → Index → Index → Type 0
  Rereads reading answer ps P i next = Again order w i next (ps v) (Told (reading w) answer (ps w) (ps v) P)

  pub counted-again : (i : Index) (part : Extent) (next : Index) → counted_at v i order ≡ Some (part, next)
      → Rereads (λ x. counted_at x i order) (Some (part, next)) (λ x. counted_pieces (extent_octets x part)) (SameIn v w part) i next
  unfolding extent_octets
  counted-again i part next e =
      let c = counted-at-facts v i order part next e in
      let n : ℕ = part.length in
      let these : List ℕ = extent_octets v part in
      let l : length these ≡ n = extent-length v part (omega (arith, c.ends, c.fits)) in
      let counts : Again order w i part.from (number_piece 4 (length these) ∷ []) (field_of w i Four order ≡ Some (n, part.from)) =
      subst (λ (k : ℕ). Again order w i part.from (number_piece 4 k ∷ []) (field_of w i Four order ≡ Some (n, part.from))) (sym l)
      (number-again order w v small i Four n part.from c.count) in
      let run = run-again order w part.from next these (omega (arith, c.ends, l)) in
      again-so order w i next (counted_pieces these) _ _
      (λ t.
      let same : SameIn v w part = ap (λ (k : ℕ). take k (drop part.from.0 w)) (sym l) ∙ t.1.1 in
      let there = counted-there w i order n part.from t.0 (omega (arith, t.1.0, l)) in
      record {
        reads = counted-at-is w i order _ there ∙ ap (λ (k : ℕ). (Some (part, index_of k))) (sym c.ends);
        pieces = ap counted_pieces same;
        same = same;
      })
      (again-append order w i part.from next (number_piece 4 (length these) ∷ []) (run_piece these ∷ []) _ _ counts run)

  pub text-again : (i : Index) (part : Extent) (next : Index) → header_text_at v i order ≡ Ok (part, next)
      → Rereads (λ x. header_text_at x i order) (Ok (part, next)) (λ x. counted_pieces (extent_octets x (with_zero part))) (SameIn v w part) i next
  text-again i part next e =
      let c = text-counted v i order part next e in
      again-so order w i next (counted_pieces (extent_octets v (with_zero part))) _ _
      (λ t. record {
        reads = header-text-alike v w i order (string-alike v w i order (with_zero part) next c t.reads t.same) ∙ e;
        pieces = t.pieces;
        same = without-zero v w part t.same;
      })
      (counted-again i (with_zero part) next c)

  pub tagged-again : (i : Index) (tag : ℕ) (part : Extent) (next : Index) → tagged_at v i order ≡ Some (tag, part, next)
      → Rereads (λ x. tagged_at x i order) (Some (tag, part, next)) (λ x. tagged_pieces tag (extent_octets x part)) (SameIn v w part) i next
  tagged-again i tag part next e =
      let f = tagged-facts v i order tag part next e in
      let these : List ℕ = extent_octets v part in
      let ends = (counted-at-facts v f.behind order part next f.counted).ends in
      again-so order w i next (tagged_pieces tag these) _ _
      (λ t. record {
        reads = tagged_is w i order tag f.behind t.0 _ (counted-of w f.behind order part next t.1.reads)
            ∙ ap (λ (k : ℕ). (Some (tag, part, index_of k))) (sym ends);
        pieces = ap (tagged_pieces tag) t.1.same;
        same = t.1.same;
      })
      (again-append order w i f.behind next (number_piece 4 tag ∷ []) (counted_pieces these) _ _
      (number-again order w v small i Four tag f.behind f.tagged)
      (counted-again f.behind part next f.counted))

  -- tagged octets behind n others
  record SameBehind (i : Index) (n : ℕ) : Type 0 where
    tag : ℕ
    part : Extent
    next : Index
    first : tagged_behind v i n order ≡ Some (tag, part, next)
    second : tagged_behind w i n order ≡ Some (tag, part, next)
    same : SameIn v w part

  behind-none : (x : List ℕ) (i : Index) → tagged_behind x i 0 order ≡ tagged_at x i order
  unfolding tagged_behind skip_tagged
  behind-none x i = refl

  behind-one : (x : List ℕ) (i : Index) (tag : ℕ) (part : Extent) (next : Index) → tagged_at x i order ≡ Some (tag, part, next) → (n : ℕ)
      → tagged_behind x i (suc n) order ≡ tagged_behind x next n order
  unfolding tagged_behind skip_tagged
  behind-one x i tag part next e n = ap (λ (t : Option (ℕ × Extent × Index)). tagged_after x order (on_tagged t (λ (j : Index). skip_tagged x order n j))) e

  each-behind : (i : Index) (tag : ℕ) (part : Extent) (j : Index) → tagged_at v i order ≡ Some (tag, part, j) → tagged_at w i order ≡ Some (tag, part, j) → SameIn v w part
      → (n : ℕ) → ((m : ℕ) → m < n → SameBehind j m) → (m : ℕ) → m < suc n → SameBehind i m
  each-behind i tag part j e f s n others zero h = record {
    tag = tag;
    part = part;
    next = j;
    first = behind-none v i ∙ e;
    second = behind-none w i ∙ f;
    same = s;
  }
  each-behind i tag part j e f s n others (suc m) h =
      let o = others m (omega (arith, h)) in
      record {
        tag = o.tag;
        part = o.part;
        next = o.next;
        first = behind-one v i tag part j e m ∙ o.first;
        second = behind-one w i tag part j f m ∙ o.second;
        same = o.same;
      }

  abbrev Entries : ℕ → Index → Index → Type 0
  Entries n i next =
      Rereads (λ x. skip_tagged x order n i) (Some next) (λ x. list_pieces x order n i) ((m : ℕ) → m < n → SameBehind i m) i next

  by-entry : (n : ℕ) (i next : Index) → ((j : Index) → skip_tagged v order n j ≡ Some next → Entries n j next) → (c : Option (ℕ × Extent × Index)) → tagged_at v i order ≡ c
      → on_tagged c (λ j. skip_tagged v order n j) ≡ Some next → Entries (suc n) i next
  unfolding skip_tagged list_pieces
  by-entry n i next others (Some (tag, part, j)) e q =
      let pieces_in : List ℕ → Option (ℕ × Extent × Index) → List Piece =
      λ x t. on_tagged_pieces t (λ a b k. tagged_pieces a (extent_octets x b) ++ list_pieces x order n k) in
      let ps : List Piece = tagged_pieces tag (extent_octets v part) in
      let qs : List Piece = list_pieces v order n j in
      subst (λ (rs : List Piece). Again order w i next rs (Told (skip_tagged w order (suc n) i) (Some next) (list_pieces w order (suc n) i) rs
      ((m : ℕ) → m < suc n → SameBehind i m))) (sym (ap (pieces_in v) e))
      (again-so order w i next (ps ++ qs) _ _
      (λ t. record {
        reads = ap (λ (u : Option (ℕ × Extent × Index)). on_tagged u (λ (k : Index). skip_tagged w order n k)) t.0.reads ∙ t.1.reads;
        pieces = ap (pieces_in w) t.0.reads
            ∙ ap (λ (rs : List Piece). rs ++ list_pieces w order n j) t.0.pieces
            ∙ ap (λ (rs : List Piece). ps ++ rs) t.1.pieces;
        same = each-behind i tag part j e t.0.reads t.0.same n t.1.same;
      })
      (again-append order w i j next ps qs _ _ (tagged-again i tag part j e) (others j q)))
  by-entry n i next others None e q = clash cc

  entries-again : (n : ℕ) (i next : Index) → skip_tagged v order n i ≡ Some next → Entries n i next
  unfolding skip_tagged list_pieces
  entries-again zero i next e =
      let a : i ≡ next = cc in
      subst (Entries zero i) a (again-none order w i _ (record { reads = refl; pieces = refl; same = λ m h. absurd (omega (arith, h)) }))
  entries-again (suc n) i next e = by-entry n i next (λ j q. entries-again n j next q) (tagged_at v i order) refl e

  -- a list of them
  numbered_is : (x : List ℕ) (list : TaggedList) (n : ℕ) → n < list.count → (t : Option (ℕ × Extent × Index)) → tagged_behind x list.first n order ≡ t
      → numbered_tag x list order n ≡ numbered_found t
  unfolding numbered_tag choose
  numbered_is x list n h t e = rw (lt-leb list.count n h, e)

  pub list-again : (i : Index) (list : TaggedList) (next : Index) → tagged_list_at v i order ≡ Some (list, next)
      → Rereads (λ x. tagged_list_at x i order) (Some (list, next)) (λ x. tagged_list_pieces x order list) (SameList v w order list) i next
  list-again i list next e =
      let f = tagged-list-facts v i order list next e in
      let ps : List Piece = list_pieces v order list.count list.first in
      again-so order w i next (tagged_list_pieces v order list) _ _
      (λ t. record {
        reads = tagged-list-is w i order list.count list.first t.0 (Some next) t.1.reads;
        pieces = ap (λ (rs : List Piece). number_piece 4 list.count ∷ rs) t.1.pieces;
        same = λ n h.
            let s = t.1.same n h in
            record {
              tag = s.tag;
              octets = s.part;
              first = numbered_is v list n h (Some (s.tag, s.part, s.next)) s.first;
              second = numbered_is w list n h (Some (s.tag, s.part, s.next)) s.second;
              same = s.same;
            };
      })
      (again-append order w i list.first next (number_piece 4 list.count ∷ []) ps _ _
      (number-again order w v small i Four list.count list.first f.count)
      (entries-again list.count list.first next f.passed))
