-- Tagged octets that were read end in the octets, and where n of them were skipped each of them stands.
use Rattle.std.specs.Prelude.{Option, Some, None}
use mathlib.Core.Path.{◌≡◌, refl, sym, ap, subst, ◌∙◌}
use mathlib.Core.List.{List}
use Prim.Native.Nat.{ℕ, zero, suc, ◌+◌, ◌-◌, ◌≤◌, ◌<◌}
use native.Mathlib.Omega.{arith}
use lib.ListN.{length}
use Rattle.choices.proofs.Choices.{clash}
use Rattle.choices.proofs.Tuples.{some-pair, some-triple}
use Rattle.cdr.specs.declared.Index.{Index}
use Rattle.cdr.specs.declared.Order.{Order}
use Rattle.cdr.specs.declared.Size.TheVariants.{Four}
use Rattle.cdr.specs.Align.{index_of}
use Rattle.cdr_fields.specs.declared.Extent.{Extent}
use Rattle.cdr_fields.specs.Encapsulation.{field_of, counted_of}
use Rattle.cdr_fields.specs.Extents.{extent, counted_upto, counted_at}
use Rattle.cdr_fields.specs.declared.TaggedList.{TaggedList}
use Rattle.cdr_fields.specs.Tagged.{tagged_from, tag_from, tagged_at, on_tagged, skip_tagged, tagged_after, tagged_behind}
use Rattle.cdr_fields.specs.Tagged.{tagged_list, tagged_list_upto, tagged_list_from, tagged_list_at}
use Rattle.cdr_fields.proofs.FieldsRead.{field-facts}
use Rattle.cdr_fields.proofs.FieldsWithin.{counted-facts}

-- ---- one

module _ (v : List ℕ) (i : Index) (order : Order) where
  pub tagged-none : field_of v i Four order ≡ None → tagged_at v i order ≡ None
  unfolding tagged_at
  tagged-none e = ap (tag_from v order) e

  pub tagged_is : (tag : ℕ) (next : Index) → field_of v i Four order ≡ Some (tag, next) → (c : Option (Index × ℕ)) → counted_of v next order ≡ c
      → tagged_at v i order ≡ tagged_from tag c
  unfolding tagged_at
  tagged_is tag next e c f = ap (tag_from v order) e ∙ ap (tagged_from tag) f

  -- the same by the octets' extent and the index after them
  abbrev with_tag : ℕ → Option (Extent × Index) → Option (ℕ × Extent × Index)
  with_tag tag (Some (octets, next)) = Some (tag, octets, next)
  with_tag tag None = None

  same_tagged : (tag : ℕ) (c : Option (Index × ℕ)) → tagged_from tag c ≡ with_tag tag (counted_upto c)
  same_tagged tag (Some (from, n)) = refl
  same_tagged tag None = refl

  pub tagged-with : (tag : ℕ) (behind : Index) → field_of v i Four order ≡ Some (tag, behind) → (c : Option (Extent × Index)) → counted_at v behind order ≡ c
      → tagged_at v i order ≡ with_tag tag c
  unfolding counted_at
  tagged-with tag behind e c f = tagged_is tag behind e _ refl ∙ same_tagged tag (counted_of v behind order) ∙ ap (with_tag tag) f

  -- the index after tagged octets is the one behind their extent, and in the octets
  abbrev Ends : Extent → Index → Type 0
  Ends octets next = (next.0 ≡ octets.from.0 + octets.length) × (next.0 ≤ length v)

  by-octets : (t : ℕ) (behind : Index) (c : Option (Index × ℕ)) → counted_of v behind order ≡ c → (tag : ℕ) (octets : Extent) (next : Index)
      → tagged_from t c ≡ Some (tag, octets, next) → Ends octets next
  by-octets t behind (Some (from, n)) e tag octets next q =
      let parts = some-triple q in
      let a : extent from n ≡ octets = cc in
      let b : index_of (from.0 + n) ≡ next = cc in
      let within = (counted-facts v behind order from n e).1 in
      let after : next.0 ≡ from.0 + n = ap (λ (x : Index). x.0) (sym b) in
      subst (λ (x : Extent). Ends x next) a (omega (arith, after), omega (arith, after, within))
  by-octets t behind None e tag octets next q = clash cc

  by-tag : (f : Option (ℕ × Index)) (tag : ℕ) (octets : Extent) (next : Index) → tag_from v order f ≡ Some (tag, octets, next) → Ends octets next
  by-tag (Some (t, behind)) tag octets next q = by-octets t behind (counted_of v behind order) refl tag octets next q
  by-tag None tag octets next q = clash cc

  pub tagged-inside : (tag : ℕ) (octets : Extent) (next : Index) → tagged_at v i order ≡ Some (tag, octets, next) → Ends octets next
  unfolding tagged_at
  tagged-inside tag octets next q = by-tag (field_of v i Four order) tag octets next q

-- ---- so many of them, turn by turn

module _ (v : List ℕ) (order : Order) (n k : ℕ) (i : Index) where
  left-suc : k < n → n - k ≡ suc (n - (k + 1))
  left-suc h = omega arith

  pub skip-few : k < n → tagged_at v i order ≡ None → skip_tagged v order (n - k) i ≡ None
  unfolding skip_tagged
  skip-few h e = rw (left-suc h, e)

  pub skip-next : k < n → (tag : ℕ) (octets : Extent) (next : Index) → tagged_at v i order ≡ Some (tag, octets, next)
      → skip_tagged v order (n - k) i ≡ skip_tagged v order (n - (k + 1)) next
  unfolding skip_tagged
  skip-next h tag octets next e = rw (left-suc h, e)

  pub skip-end : n ≤ k → skip_tagged v order (n - k) i ≡ Some i
  unfolding skip_tagged
  skip-end h = let z : n - k ≡ 0 = omega arith in rw z

-- ---- those behind n others

-- where they stand
pub record Stands (v : List ℕ) (order : Order) (n : ℕ) (first : Index) : Type 0 where
  pub at : Index
  pub passed : skip_tagged v order n first ≡ Some at
  pub tag : ℕ
  pub octets : Extent
  pub next : Index
  pub there : tagged_at v at order ≡ Some (tag, octets, next)

module _ (v : List ℕ) (order : Order) where
  pub behind-is : (first : Index) (n : ℕ) (s : Option Index) → skip_tagged v order n first ≡ s → tagged_behind v first n order ≡ tagged_after v order s
  unfolding tagged_behind
  behind-is first n s e = ap (tagged_after v order) e

  pub skip-none : (first : Index) → skip_tagged v order 0 first ≡ Some first
  unfolding skip_tagged
  skip-none first = refl

  -- after one, by what holds after the others
  past_one : (c : Option (ℕ × Extent × Index)) (i : Index) → tagged_at v i order ≡ c → (n : ℕ) (e : Index)
      → ((next : Index) → next.0 ≤ length v → skip_tagged v order n next ≡ Some e → e.0 ≤ length v)
      → on_tagged c (λ next. skip_tagged v order n next) ≡ Some e → e.0 ≤ length v
  past_one (Some (tag, octets, next)) i r n e past q = past next (tagged-inside v i order tag octets next r).1 q
  past_one None i r n e past q = clash cc

  -- those that were skipped end in the octets
  pub skip-inside : (n : ℕ) (i e : Index) → i.0 ≤ length v → skip_tagged v order n i ≡ Some e → e.0 ≤ length v
  unfolding skip_tagged
  skip-inside zero i e h q = let a : i ≡ e = cc in subst (λ (x : Index). x.0 ≤ length v) a h
  skip-inside (suc n) i e h q = past_one (tagged_at v i order) i refl n e (λ next. skip-inside n next e) q

  past : (c : Option (ℕ × Extent × Index)) (i : Index) → tagged_at v i order ≡ c → (m : ℕ) (e : Index) → on_tagged c (λ next. skip_tagged v order m next) ≡ Some e
      → (n : ℕ) → ((next : Index) → skip_tagged v order m next ≡ Some e → Stands v order n next) → Stands v order (suc n) i
  unfolding skip_tagged
  past (Some (tag, octets, next)) i q m e h n stands =
      let s = stands next h in
      record {
        at = s.at;
        passed = ap (λ (c : Option (ℕ × Extent × Index)). on_tagged c (λ (j : Index). skip_tagged v order n j)) q ∙ s.passed;
        tag = s.tag;
        octets = s.octets;
        next = s.next;
        there = s.there;
      }
  past None i q m e h n stands = clash cc

  here : (c : Option (ℕ × Extent × Index)) (i : Index) → tagged_at v i order ≡ c → (m : ℕ) (e : Index) → on_tagged c (λ next. skip_tagged v order m next) ≡ Some e
      → Stands v order 0 i
  unfolding skip_tagged
  here (Some (tag, octets, next)) i q m e h = record { at = i; passed = refl; tag = tag; octets = octets; next = next; there = q }
  here None i q m e h = clash cc

  -- where so many were skipped, each of them stands
  pub each_stands : (n m : ℕ) (i e : Index) → n < m → skip_tagged v order m i ≡ Some e → Stands v order n i
  unfolding skip_tagged
  each_stands n zero i e l h = clash (omega (arith, l))
  each_stands zero (suc m) i e l h = here (tagged_at v i order) i refl m e h
  each_stands (suc n) (suc m) i e l h = past (tagged_at v i order) i refl m e h n (λ next. each_stands n m next e (omega (arith, l)))

-- ---- a list of them behind their count

module _ (v : List ℕ) (i : Index) (order : Order) where
  pub tagged-list-none : field_of v i Four order ≡ None → tagged_list_at v i order ≡ None
  unfolding tagged_list_at
  tagged-list-none e = ap (tagged_list_from v order) e

  pub tagged-list-is : (count : ℕ) (first : Index) → field_of v i Four order ≡ Some (count, first) → (s : Option Index) → skip_tagged v order count first ≡ s
      → tagged_list_at v i order ≡ tagged_list_upto count first s
  unfolding tagged_list_at
  tagged-list-is count first e s q = ap (tagged_list_from v order) e ∙ ap (tagged_list_upto count first) q

  -- their count stands before the first, and the index after them is in the octets
  pub record ListRead (list : TaggedList) (next : Index) : Type 0 where
    pub count : field_of v i Four order ≡ Some (list.count, list.first)
    pub passed : skip_tagged v order list.count list.first ≡ Some next

  by-skipped : (count : ℕ) (first : Index) → field_of v i Four order ≡ Some (count, first) → (s : Option Index) → skip_tagged v order count first ≡ s
      → (list : TaggedList) (next : Index) → tagged_list_upto count first s ≡ Some (list, next) → ListRead list next
  by-skipped count first e (Some j) s list next q =
      let parts = some-pair q in
      let a : tagged_list count first ≡ list = cc in
      let b : j ≡ next = cc in
      subst (λ (x : TaggedList). ListRead x next) a (record { count = e; passed = s ∙ ap Some b })
  by-skipped count first e None s list next q = clash cc

  by_field : (f : Option (ℕ × Index)) → field_of v i Four order ≡ f → (list : TaggedList) (next : Index) → tagged_list_from v order f ≡ Some (list, next) → ListRead list next
  by_field (Some (count, first)) e list next q = by-skipped count first e (skip_tagged v order count first) refl list next q
  by_field None e list next q = clash cc

  pub tagged-list-facts : (list : TaggedList) (next : Index) → tagged_list_at v i order ≡ Some (list, next) → ListRead list next
  unfolding tagged_list_at
  tagged-list-facts list next q = by_field (field_of v i Four order) refl list next q

  pub tagged-list-inside : (list : TaggedList) (next : Index) → tagged_list_at v i order ≡ Some (list, next) → next.0 ≤ length v
  tagged-list-inside list next q =
      let r = tagged-list-facts list next q in
      let first = (field-facts v i Four order list.count list.first r.count).fits in
      skip-inside v order list.count list.first next first r.passed
