-- The flat list of a type without a fault: where the first kind inside a kind stands, and where the next one beside it.
use Rattle.std.specs.Prelude.{Ok}
use mathlib.Core.Path.{◌≡◌, refl, sym, ◌∙◌, ap, subst}
use mathlib.Core.Logic.{◌↔◌}
use mathlib.Core.List.{List, [], ◌∷◌}
use mathlib.Core.Bool.{Bool, true, false, cond, true≢false}
use Prim.Native.Nat.{ℕ, zero, suc, ◌+◌, ◌≤◌, ◌<◌}
use native.Mathlib.Omega.{arith}
use borrow.Author.Tests.{lt-ltb, le-ltb, eqb-true, eqb-false, ltb-true, ltb-false}
use lib.Dec.{eqb, ltb}
use lib.ListN.{length, get_or}
use Rattle.choices.specs.Lists.{Among}
use Rattle.choices.specs.Lists.Among.{first, later}
use Rattle.choices.proofs.Choices.{by-test}
use Rattle.cdr.specs.declared.Index.{Index}
use Rattle.cdr.specs.declared.Place.{Place}
use Rattle.cdr.specs.declared.Order.{Order}
use Rattle.type_kinds.specs.declared.Inner.{Inner}
use Rattle.type_kinds.specs.declared.Inner.TheVariants.{Here, There}
use Rattle.type_kinds.specs.declared.Fields.{Fields}
use Rattle.type_kinds.specs.declared.Labels.{Labels}
use Rattle.type_parameters.specs.declared.Parameters.{Parameters}
use Rattle.type_parameters.specs.declared.Parameters.TheVariants.{Fault, Flat as flat, Struct, Exception, Union, Sequence, Array, Alias}
use Rattle.type_kinds.specs.declared.Kind.{Kind}
use Rattle.cdr.specs.Align.{index_of}
use Rattle.type_kinds.specs.Parts.{place_of, place_in}
use Rattle.type_kinds.specs.Members.{members_of, types_of}
use Rattle.type_parameters.specs.Parameters.{parameters_at}
use Rattle.type_list.specs.Met.{kind_no}
use Rattle.type_fields.specs.Fields.{nesting_limit}
use Rattle.type_walk.specs.Walk.{Walk, Walked, nothing_met}
use Rattle.type_walk.specs.Types.{type_at, walked_of}
use Rattle.type_laws.specs.Written.{types_by, Tells, KindWritten, Inside}
use Rattle.type_laws.specs.Written.Inside.{typed, member}
use Rattle.type_laws.specs.Loops.{NoFault}
use Rattle.type_laws.proofs.Sound.{Entry}
use Rattle.type_laws.proofs.FlatList.{is_union, Row, written_in, Nth, Beside, Flat, inner_after, beside_after, Found, Right}
use Rattle.type_laws.proofs.FlatList.Row.{plain, switch}
use Rattle.type_laws.proofs.ListGrows.{Grows, grows_none}
use Rattle.type_laws.proofs.InnerKnown.{Switched, Closed, Lodged, Complete, switch-grows}
use Rattle.type_laws.proofs.InnerKnown.Lodged.{typed as in-types, member as in_members}
use Rattle.type_laws.proofs.WrittenSpan.{RowOf, Span, Spans, span-grows}
use Rattle.type_laws.proofs.WrittenSpan.Span.{span}
use Rattle.type_laws.proofs.WrittenSpan.Spans.{end, past, over}
use Rattle.type_laws.proofs.ReadAgain.{spanned}
use Rattle.type_laws.proofs.PlaceFound.{position-once}
use Rattle.type_laws.proofs.KindsListed.{single, same-union, closed_at, resolves, tells-said, tells-by, all-written, listed, written_entry}
use Rattle.type_laws.proofs.LoopsExactly.{no-fault-ends, fault-complete}
use Rattle.type_laws.proofs.Exactly39.{short, walked-short}

-- ---- spans

module _ (v : List ℕ) (m : List Kind) where
  mutual
    pub span-after : {j e : ℕ} → Span v m j e → j < e
    span-after (span xs l r s) = omega (arith, spans-after s)

    spans-after : {xs : List Inner} {i e : ℕ} → Spans v m xs i e → i ≤ e
    spans-after (end q) = omega arith
    spans-after (past s) = spans-after s
    spans-after (over q t s) = omega (arith, span-after t, spans-after s)

  here-or : (i k : ℕ) → Span v m i k → (j : ℕ) → i ≤ j → (i < j → (e : ℕ) × Span v m j e × (e ≤ k)) → (e : ℕ) × Span v m j e × (e ≤ k)
  here-or i k s j a f =
      by-test (eqb i j) (λ t. (k, subst (λ (x : ℕ). Span v m x k) (eqb-true i j t) s, omega arith)) (λ t. f (omega (arith, eqb-false i j t)))

  mutual
    -- each position of a span has its own, inside it
    span-at : {i k : ℕ} → Span v m i k → (j : ℕ) → i ≤ j → j < k → (e : ℕ) × Span v m j e × (e ≤ k)
    span-at (span {j = i} {e = k} xs l r s) j a b = here-or i k (span {j = i} {e = k} xs l r s) j a (λ c. spans-at s j (omega arith) b)

    spans-at : {xs : List Inner} {i k : ℕ} → Spans v m xs i k → (j : ℕ) → i ≤ j → j < k → (e : ℕ) × Span v m j e × (e ≤ k)
    spans-at (end q) j a b = absurd (omega arith)
    spans-at (past s) j a b = spans-at s j a b
    spans-at (over {k = n} q t s) j a b =
        by-test (ltb j n) (λ c. let z = span-at t j a (ltb-true j n c) in (z.0, z.1, omega (arith, z.2, spans-after s)))
        (λ c. spans-at s j (ltb-false j n c) b)

  -- ---- the row of a kind, and the end of its span, are one

  row-once : (p : Parameters) (xs ys : List Inner) → RowOf v m p xs → RowOf v m p ys → xs ≡ ys
  row-once Fault xs ys a b = a ∙ sym b
  row-once (flat i) xs ys a b = a ∙ sym b
  row-once (Struct g) xs ys a b = a ∙ sym b
  row-once (Exception g) xs ys a b = a ∙ sym b
  row-once (Union g d default) xs ys a b =
      a.1 ∙ ap (λ (t : Labels). d ∷ types_of (members_of t v g)) (sym a.0.said ∙ b.0.said) ∙ sym b.1
  row-once (Sequence x bound) xs ys a b = a ∙ sym b
  row-once (Array x n) xs ys a b = a ∙ sym b
  row-once (Alias x) xs ys a b = a ∙ sym b

  span-parts : (j e : ℕ) → Span v m j e → (xs : List Inner) × RowOf v m (parameters_at v (kind_no m j)) xs × Spans v m xs (j + 1) e
  span-parts j e (span xs l r s) = (xs, r, s)

  spans-of : (j e : ℕ) → Span v m j e → (xs : List Inner) → RowOf v m (parameters_at v (kind_no m j)) xs → Spans v m xs (j + 1) e
  spans-of j e t xs r =
      let z = span-parts j e t in
      subst (λ (ys : List Inner). Spans v m ys (j + 1) e) (row-once (parameters_at v (kind_no m j)) z.0 xs z.1 r) z.2

  spans-none : (i e : ℕ) → Spans v m [] i e → i ≡ e
  spans-none i e (end q) = q

  spans-past : (p : Place) (xs : List Inner) (i e : ℕ) → Spans v m (There p ∷ xs) i e → Spans v m xs i e
  spans-past p xs i e (past s) = s

  spans-over : (a : Kind) (xs : List Inner) (i e : ℕ) → Spans v m (Here a ∷ xs) i e → (k : ℕ) × Span v m i k × Spans v m xs k e
  spans-over a xs i e (over {k = k} q t s) = (k, t, s)

  mutual
    span-once : {j e : ℕ} → Span v m j e → (e' : ℕ) → Span v m j e' → e ≡ e'
    span-once (span {j = j} xs l r s) e' t = spans-once s e' (spans-of j e' t xs r)

    spans-once : {xs : List Inner} {i e : ℕ} → Spans v m xs i e → (e' : ℕ) → Spans v m xs i e' → e ≡ e'
    spans-once (end {i = i} q) e' t = sym q ∙ spans-none i e' t
    spans-once (past {p = p} {xs = xs} {i = i} s) e' t = spans-once s e' (spans-past p xs i e' t)
    spans-once (over {a = a} {xs = xs} {i = i} q u s) e' t =
        let z = spans-over a xs i e' t in
        spans-once s e' (subst (λ (x : ℕ). Spans v m xs x e') (sym (span-once u z.0 z.1)) z.2)

-- ---- the list, and where its kinds end

module _ (v : List ℕ) (order : Order) (m : List Kind) (c : Complete v order m) (whole : Span v m 0 (length m)) where
  pub ends_by : (j : ℕ) (t : Bool) → ltb j (length m) ≡ t → (e : ℕ) × (j < length m → Span v m j e)
  ends_by j true t = let z = span-at v m whole j (omega arith) (ltb-true j (length m) t) in (z.0, λ l. z.1)
  ends_by j false t = (0, λ l. absurd (omega (arith, ltb-false j (length m) t)))

  unfoldable pub ends_at : ℕ → ℕ
  ends_at j = (ends_by j (ltb j (length m)) refl).0

  ends-span : (j : ℕ) → j < length m → Span v m j (ends_at j)
  unfolding ends_at
  ends-span j l = (ends_by j (ltb j (length m)) refl).1 l

  -- the kind at a position, whatever stands past the end
  nth-same : (l : List Kind) (j : ℕ) → j < length l → (d : Kind) → get_or l j d ≡ kind_no l j
  nth-same [] j h d = absurd (omega arith)
  nth-same (a ∷ l) zero h d = refl
  nth-same (a ∷ l) (suc j) h d = nth-same l j (omega arith) d

  nth-entry : (j : ℕ) → j < length m → (d : Kind) → get_or m j d ≡ kind_no m j
  nth-entry j l d = nth-same m j l d

  nth-is : (j : ℕ) (a : Kind) → Nth m j a → (j < length m) × (kind_no m j ≡ a)
  nth-is j a h = (h.0, sym (nth-entry j h.0 a) ∙ h.1)

  low : (i k : ℕ) → Span v m i k → i < length m
  low i k (span xs l r s) = l

  -- what the check has to note of a kind: the number of kinds met when it is closed. `Well.spans` and `written-span` give the span at that moment
  pub noted : (m₁ : List Kind) → Grows m₁ m → (j : ℕ) → Span v m₁ j (length m₁) → ends_at j ≡ length m₁
  noted m₁ g j s =
      let t = span-grows v m₁ m g s in
      sym (span-once v m t (ends_at j) (ends-span j (low j (length m₁) t)))

  spans-beside : (xs : List Inner) (i e : ℕ) → Spans v m xs i e → Beside m ends_at (written_in xs) i e
  spans-beside xs i e (end q) = q
  spans-beside xs i e (past {xs = ys} s) = spans-beside ys i e s
  spans-beside xs i e (over {a = a} {xs = ys} {k = k} q t s) =
      let l = low i k t in
      let z : k ≡ ends_at i = span-once v m t (ends_at i) (ends-span i l) in
      ((l, nth-entry i l a ∙ q), subst (λ (x : ℕ). Beside m ends_at (written_in ys) x e) z (spans-beside ys k e s))

  -- ---- the row over the octets, and the row by the labels that the list says

  row_plain : (p : Parameters) → is_union p ≡ false → RowOf v m p (types_by v p)
  row_plain Fault u = refl
  row_plain (flat i) u = refl
  row_plain (Struct g) u = refl
  row_plain (Exception g) u = refl
  row_plain (Union g d default) u = absurd (true≢false u)
  row_plain (Sequence x bound) u = refl
  row_plain (Array x n) u = refl
  row_plain (Alias x) u = refl

  -- what the list says of a union, by its parameters
  switched : (a : Kind) → Entry m a → (g : Fields) (d : Inner) (default : ℕ) → parameters_at v a ≡ Union g d default → Switched v m g d
  switched a k g d default e = subst (Closed v m) e (closed_at v order m c a k)

  row_by : (a : Kind) → Entry m a → (xs : List Inner) → Row v order a xs → RowOf v m (parameters_at v a) xs
  row_by a k xs (plain u) = row_plain (parameters_at v a) u
  row_by a k xs (switch {g = g} {d = d} {default = default} {labels = labels} e t) =
      let h = switched a k g d default e in
      subst (λ (p : Parameters). RowOf v m p (d ∷ types_of (members_of labels v g))) (sym e)
      (h.by, ap (λ (l : Labels). d ∷ types_of (members_of l v g)) (tells-said v order m c d h.by labels t))

  -- every kind has a row
  has-row : (a : Kind) (p : Parameters) → parameters_at v a ≡ p → Closed v m p → (xs : List Inner) × Row v order a xs
  has-row a Fault e h = (types_by v (parameters_at v a), plain (ap is_union e))
  has-row a (flat i) e h = (types_by v (parameters_at v a), plain (ap is_union e))
  has-row a (Struct g) e h = (types_by v (parameters_at v a), plain (ap is_union e))
  has-row a (Exception g) e h = (types_by v (parameters_at v a), plain (ap is_union e))
  has-row a (Union g d default) e h = (
    d ∷ types_of (members_of h.by.labels v g),
    switch e (tells-by v order m c m (grows_none m) (all-written v order m c) h.by.labels (place_in d) (resolves v order m c d h.by) d h.by.known refl),
  )
  has-row a (Sequence x bound) e h = (types_by v (parameters_at v a), plain (ap is_union e))
  has-row a (Array x n) e h = (types_by v (parameters_at v a), plain (ap is_union e))
  has-row a (Alias x) e h = (types_by v (parameters_at v a), plain (ap is_union e))

  -- a row has exactly what stands directly inside the kind
  pub in_row : (a : Kind) → Entry m a → (xs : List Inner) → Row v order a xs → (x : Inner) → Inside v order a x → Among x xs
  in_row a k xs (plain u) x (typed y) = y
  in_row a k xs (plain u) x (member q t y) = absurd (true≢false (sym (ap is_union q) ∙ u))
  in_row a k xs (switch {g = g} {d = d} {labels = labels} q t) x (typed y) =
      let y' : Among x (d ∷ []) = subst (λ (p : Parameters). Among x (types_by v p)) q y in
      subst (λ (z : Inner). Among z (d ∷ types_of (members_of labels v g))) (sym (single y')) first
  in_row a k xs (switch {g = g} {d = d} {default = default} {labels = labels} q t) x (member {d = d'} {g = g'} {labels = labels'} q' t' y) =
      let z = same-union (sym q' ∙ q) in
      let h = switched a k g d default q in
      let l : labels' ≡ labels =
      tells-said v order m c d h.by labels' (subst (λ (i : Inner). Tells v order i labels') z.1 t') ∙ sym (tells-said v order m c d h.by labels t) in
      later (subst (λ (s : Labels). Among x (types_of (members_of s v g))) l (subst (λ (f : Fields). Among x (types_of (members_of labels' v f))) z.0 y))

  pub row_in : (a : Kind) (xs : List Inner) → Row v order a xs → (x : Inner) → Among x xs → Inside v order a x
  row_in a xs (plain u) x y = typed y
  row_in a xs (switch {g = g} {d = d} {labels = labels} q t) x y = go x y
    where
      go : (x : Inner) → Among x (d ∷ types_of (members_of labels v g)) → Inside v order a x
      go x first = typed (subst (λ (p : Parameters). Among x (types_by v p)) (sym q) first)
      go x (later y) = member q t y

  pub ends-flat : Flat v order m ends_at
  ends-flat =
      record {
        listed = listed v order m c;
        whole = sym (span-once v m whole (ends_at 0) (ends-span 0 c.some));
        after = λ j l. span-after v m (ends-span j l);
        nested = λ j i l a b.
            let s = ends-span j l in
            let z = span-at v m s i a b in
            omega (arith, z.2, span-once v m z.1 (ends_at i) (ends-span i (low i z.0 z.1)));
        row = λ j a h. let z = nth-is j a h in has-row a (parameters_at v a) refl (closed_at v order m c a (j, z.0, z.1));
        rows = λ j a h xs r.
            let z = nth-is j a h in
            let w : RowOf v m (parameters_at v (kind_no m j)) xs = subst (λ (x : Kind). RowOf v m (parameters_at v x) xs) (sym z.1) (row_by a (j, z.0, z.1) xs r) in
            spans-beside xs (j + 1) (ends_at j) (spans-of v m j (ends_at j) (ends-span j z.0) xs w);
      }

-- ---- octets without a fault

module _ (v : List ℕ) (order : Order) where
  spans-by : (i : Index) → (walked_of v order).step ≡ Ok i → (w : Walk) → w ≡ nothing_met
      → walked_of v order ≡ type_at v nesting_limit v (place_of 0) order (index_of 0) w → Span v (walked_of v order).walk.kinds 0 (length (walked_of v order).walk.kinds)
  spans-by i e w z q =
      subst (λ (c : Walked). Span v c.walk.kinds 0 (length c.walk.kinds)) (sym q) (spanned v order w z i (sym (ap (λ (c : Walked). c.step) q) ∙ e))

  pub whole-span : NoFault v order → Span v (walked_of v order).walk.kinds 0 (length (walked_of v order).walk.kinds)
  whole-span h =
      let e = no-fault-ends v order h in
      let s = short v order e.0 e.1 in
      spans-by e.0 e.1 nothing_met refl (walked-short v order s)

  -- what stands directly inside a kind written is one list, in octet order
  pub row_list : NoFault v order → (a : Kind) → KindWritten v order a → (xs : List Inner) → Row v order a xs → (x : Inner) → Among x xs ↔ Inside v order a x
  row_list h a w xs r x =
      let c = fault-complete v order h in
      let m = (walked_of v order).walk.kinds in
      let t = whole-span h in
      (row_in v order m c t a xs r x, in_row v order m c t a (written_entry v order m c a w) xs r x)

  -- the list that the check met, and the positions where the kinds inside each of its kinds end
  pub met-flat : NoFault v order → (end : ℕ → ℕ) × Flat v order (walked_of v order).walk.kinds end
  met-flat h =
      let m = (walked_of v order).walk.kinds in
      let c = fault-complete v order h in
      (ends_at v order m c (whole-span h), ends-flat v order m c (whole-span h))

-- ---- the two positions of each kind, by the ends

-- a position on the way from p to e, from end to end
pub data On (ends : ℕ → ℕ) (e : ℕ) : ℕ → ℕ → Type 0 where
  this : {p : ℕ} → p < e → On ends e p p
  next : {p i : ℕ} → p < e → On ends e (ends p) i → On ends e p i

module _ (v : List ℕ) (order : Order) (ks : List Kind) (ends : ℕ → ℕ) (f : Flat v order ks ends) where
  beside-after : (ls : List Kind) (p e : ℕ) → Beside ks ends ls p e → p ≤ e
  beside-after [] p e h = omega arith
  beside-after (a ∷ ls) p e h = omega (arith, f.after p h.0.0, beside-after ls (ends p) e h.1)

  on-between : (e p i : ℕ) → e ≤ length ks → On ends e p i → (p ≤ i) × (i < e)
  on-between e p i l (this a) = (omega arith, a)
  on-between e p i l (next a o) = let z = on-between e (ends p) i l o in (omega (arith, f.after p (omega arith), z.0), z.1)

  -- what lies before a position on the way ends before it
  on-before : (e p i : ℕ) → e ≤ length ks → On ends e p i → (x : ℕ) → p ≤ x → x < i → ends x ≤ i
  on-before e p i l (this a) x b c = absurd (omega arith)
  on-before e p i l (next a o) x b c =
      by-test (ltb x (ends p))
      (λ t. omega (arith, f.nested p x (omega arith) b (ltb-true x (ends p) t), (on-between e (ends p) i l o).0))
      (λ t. on-before e (ends p) i l o x (ltb-false x (ends p) t) c)

  ends_low : (j : ℕ) → j < length ks → ends j ≤ length ks
  ends_low j l = let n = f.whole in omega (arith, f.nested 0 j (omega arith) (omega arith) (omega (arith, l, n)), n)

  -- so a kind stands directly inside one kind only
  not-both : (j j' i : ℕ) → j < j' → j' < length ks → On ends (ends j) (j + 1) i → On ends (ends j') (j' + 1) i → ⊥
  not-both j j' i a l o o' =
      let z = on-between (ends j') (j' + 1) i (ends_low j' l) o' in
      absurd (omega (arith, z.0, z.1, on-before (ends j) (j + 1) i (ends_low j (omega arith)) o j' (omega arith) (omega (arith, z.0))))

  one_parent : (j j' i : ℕ) → j < length ks → j' < length ks → On ends (ends j) (j + 1) i → On ends (ends j') (j' + 1) i → j ≡ j'
  one_parent j j' i l l' o o' =
      by-test (eqb j j') (λ t. eqb-true j j' t) (λ t.
      let n = eqb-false j j' t in
      by-test (ltb j j') (λ s. absurd (not-both j j' i (ltb-true j j' s) l' o o')) (λ s. absurd (not-both j' j i (omega (arith, n, ltb-false j j' s)) l o' o)))

  beside-on : (a : Kind) (ls : List Kind) (p e : ℕ) → Beside ks ends ls p e → Among a ls → (i : ℕ) × On ends e p i × Nth ks i a
  beside-on a ls p e h (first {xs = more}) = (p, this {p = p} (omega (arith, f.after p h.0.0, beside-after more (ends p) e h.1)), h.0)
  beside-on a ls p e h (later {y = b} {xs = more} y) =
      let z = beside-on a more (ends p) e h.1 y in
      (z.0, next {p = p} (omega (arith, f.after p h.0.0, beside-after more (ends p) e h.1)) z.1, z.2)

  abbrev where_next : ℕ → ℕ → ℕ
  where_next p e = cond (ltb p e) p (length ks)

  found-by : (beside : ℕ → ℕ) (j : ℕ) (ls : List Kind) (p : ℕ) → ((i : ℕ) → On ends (ends j) p i → beside i ≡ beside_after (length ks) ends j i)
      → Beside ks ends ls p (ends j) → Found ks beside ls (where_next p (ends j))
  found-by beside j [] p b h = rw (le-ltb p (ends j) (omega arith))
  found-by beside j (a ∷ ls) p b h =
      let l : p < ends j = omega (arith, f.after p h.0.0, beside-after ls (ends p) (ends j) h.1) in
      rw (lt-ltb p (ends j) l) (h.0, subst (Found ks beside ls) (sym (b p (this l))) (found-by beside j ls (ends p) (λ i o. b i (next l o)) h.1))

  -- positions that name, for each kind, the kind it stands in are right
  right_by : (parent : ℕ → ℕ) → ((i : ℕ) → 0 < i → i < length ks → (parent i < length ks) × On ends (ends (parent i)) (parent i + 1) i)
      → 0 < length ks → parent 0 ≡ 0
      → Right v order ks (inner_after (length ks) ends) (λ i. beside_after (length ks) ends (parent i) i)
  right_by parent h some zeroth =
      record {
        listed = f.listed;
        top = rw (zeroth, le-ltb (ends 0) (ends 0) (omega arith));
        row = f.row;
        rows = λ j a n xs r.
            found-by (λ i. beside_after (length ks) ends (parent i) i) j (written_in xs) (j + 1)
            (λ i o. let b = on-between (ends j) (j + 1) i (ends_low j n.0) o in
            let z = h i (omega (arith, b.0)) (omega (arith, b.1, ends_low j n.0)) in
            ap (λ (x : ℕ). beside_after (length ks) ends x i) (one_parent (parent i) j i z.0 n.0 z.1 o))
            (f.rows j a n xs r);
      }

-- ---- the parents

module _ (v : List ℕ) (order : Order) (m : List Kind) (c : Complete v order m) (whole : Span v m 0 (length m)) where
  among-written : (a : Kind) (xs : List Inner) → Among (Here a) xs → Among a (written_in xs)
  among-written a xs first = first
  among-written a xs (later {y = y} {xs = ys} h) = go y (among-written a ys h)
    where
      go : (x : Inner) → Among a (written_in ys) → Among a (written_in (x ∷ ys))
      go (Here b) h = later h
      go (There p) h = h

  -- a kind that is written inside another is in its row
  lodged-types : (j : ℕ) (p : Parameters) → Among (Here (kind_no m j)) (types_by v p) → (xs : List Inner) → RowOf v m p xs → Among (Here (kind_no m j)) xs
  lodged-types j Fault y xs r = subst (Among (Here (kind_no m j))) (sym r) y
  lodged-types j (flat i) y xs r = subst (Among (Here (kind_no m j))) (sym r) y
  lodged-types j (Struct g) y xs r = subst (Among (Here (kind_no m j))) (sym r) y
  lodged-types j (Exception g) y xs r = subst (Among (Here (kind_no m j))) (sym r) y
  lodged-types j (Union g d default) y xs r =
      subst (Among (Here (kind_no m j))) (sym r.1) (subst (λ (x : Inner). Among x (d ∷ types_of (members_of r.0.labels v g))) (sym (single y)) first)
  lodged-types j (Sequence x bound) y xs r = subst (Among (Here (kind_no m j))) (sym r) y
  lodged-types j (Array x n) y xs r = subst (Among (Here (kind_no m j))) (sym r) y
  lodged-types j (Alias x) y xs r = subst (Among (Here (kind_no m j))) (sym r) y

  lodged-row : (j : ℕ) (p : Parameters) → Lodged v m p j → (xs : List Inner) → RowOf v m p xs → Among (Here (kind_no m j)) xs
  unfolding switch-grows
  lodged-row j p (in-types y) xs r = lodged-types j p y xs r
  lodged-row j p (in_members {g = f} {d = d} {default = default} q m₁ g few most s y) xs r =
      let r' : RowOf v m (Union f d default) xs = subst (λ (x : Parameters). RowOf v m x xs) q r in
      let z : s.labels ≡ r'.0.labels = sym (switch-grows v m₁ m g d s).said ∙ r'.0.said in
      subst (Among (Here (kind_no m j))) (sym r'.1) (later (subst (λ (x : Labels). Among (Here (kind_no m j)) (types_of (members_of x v f))) z y))

  abbrev ends : ℕ → ℕ
  ends = ends_at v order m c whole

  child-on : (i : ℕ) → 0 < i → i < length m → (p : ℕ) × (p < length m) × On ends (ends p) (p + 1) i
  child-on i a l =
      let d = c.child i a l in
      let p = d.parent in
      let n : p < length m = omega (arith, d.before) in
      let s = span-parts v m p (ends p) (ends-span v order m c whole p n) in
      let y = lodged-row i (parameters_at v (kind_no m p)) d.lodged s.0 s.1 in
      let z = beside-on v order m ends (ends-flat v order m c whole) (kind_no m i) (written_in s.0) (p + 1) (ends p)
      (spans-beside v order m c whole s.0 (p + 1) (ends p) s.2) (among-written (kind_no m i) s.0 y) in
      let w = nth-is v order m c whole z.0 (kind_no m i) z.2 in
      (p, n, on-as p i z.0 (position-once v order m c z.0 i w.0 l w.1) z.1)
    where
      on-as : (p i x : ℕ) → x ≡ i → On ends (ends p) (p + 1) x → On ends (ends p) (p + 1) i
      on-as p i x q o = subst (On ends (ends p) (p + 1)) q o

  pub parent_by : (i : ℕ) (s : Bool) → ltb 0 i ≡ s → (t : Bool) → ltb i (length m) ≡ t
      → (p : ℕ) × (0 < i → i < length m → (p < length m) × On ends (ends p) (p + 1) i)
  parent_by i true s true t = let z = child-on i (ltb-true 0 i s) (ltb-true i (length m) t) in (z.0, λ a b. (z.1, z.2))
  parent_by i true s false t = (0, λ a b. absurd (omega (arith, ltb-false i (length m) t)))
  parent_by i false s t e = (0, λ a b. absurd (omega (arith, ltb-false 0 i s)))

  unfoldable pub parent_at : ℕ → ℕ
  parent_at i = (parent_by i (ltb 0 i) refl (ltb i (length m)) refl).0

  no-parent : parent_at 0 ≡ 0
  unfolding parent_at parent_by
  no-parent = refl

  pub right : Right v order m (inner_after (length m) ends) (λ i. beside_after (length m) ends (parent_at i) i)
  unfolding parent_at
  right =
      right_by v order m ends (ends-flat v order m c whole) parent_at
      (λ i a l. let z = (parent_by i (ltb 0 i) refl (ltb i (length m)) refl).1 a l in (z.0, z.1))
      c.some no-parent

module _ (v : List ℕ) (order : Order) where
  -- every type without a fault has a flat list of its kinds, with the two positions of each
  pub met-right : NoFault v order → (inner beside : ℕ → ℕ) × Right v order (walked_of v order).walk.kinds inner beside
  met-right h =
      let m = (walked_of v order).walk.kinds in
      let t = whole-span v order h in
      let c = fault-complete v order h in
      (inner_after (length m) (ends_at v order m c t), (λ i. beside_after (length m) (ends_at v order m c t) (parent_at v order m c t i) i), right v order m c t)
