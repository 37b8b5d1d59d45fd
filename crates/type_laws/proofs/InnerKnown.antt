-- What the types inside a kind are to the list of kinds met: each that is written is an entry, each target is a place of one, and every entry is
-- written inside one before it.
use mathlib.Core.Path.{◌≡◌, refl, sym, ◌∙◌, ap, subst}
use mathlib.Core.List.{List, [], ◌∷◌}
use mathlib.Core.Logic.{◌⊎◌, inl, inr}
use Prim.Native.Nat.{ℕ, ◌≤◌, ◌<◌}
use native.Mathlib.Omega.{arith}
use lib.ListN.{length}
use Rattle.choices.specs.Lists.{Among}
use Rattle.choices.specs.Lists.Among.{first, later}
use Rattle.cdr.specs.declared.Order.{Order}
use Rattle.type_kinds.specs.declared.Inner.{Inner}
use Rattle.type_kinds.specs.declared.Inner.TheVariants.{Here}
use Rattle.type_kinds.specs.declared.Fields.{Fields}
use Rattle.type_kinds.specs.declared.Labels.{Labels}
use Rattle.type_parameters.specs.declared.Parameters.{Parameters}
use Rattle.type_parameters.specs.declared.Parameters.TheVariants.{Fault, Flat, Struct, Exception, Union, Sequence, Array, Alias}
use Rattle.type_kinds.specs.declared.Kind.{Kind}
use Rattle.type_kinds.specs.Parts.{place_in}
use Rattle.type_kinds.specs.Members.{members_of, types_of}
use Rattle.type_parameters.specs.Parameters.{parameters_at}
use Rattle.type_list.specs.Met.{kind_no}
use Rattle.type_unions.specs.Discriminants.{labels_for}
use Rattle.type_laws.specs.Written.{top_kind, types_by}
use Rattle.type_laws.proofs.Sound.{Known, Labelled, Good}
use Rattle.type_laws.proofs.ListGrows.{Grows, grows-on, labels-grow, kind-again, known-grows}

abbrev Filled : {A : Type 0} → List A → Type 0
Filled [] = ⊥
Filled (y ∷ ys) = Unit {0}

filled : {A : Type 0} {x : A} {xs : List A} → Among x xs → Filled xs
filled first = tt
filled (later h) = tt

pub no-among : {A B : Type 0} (x : A) → Among x [] → B
no-among x h = absurd (filled h)

abbrev pub Rises : List Kind → Type 0
Rises m = (i j : ℕ) → i < j → j < length m → (kind_no m i).place.0 < (kind_no m j).place.0

abbrev pub AllKnown : List Kind → List Inner → Type 0
AllKnown m xs = (x : Inner) → Among x xs → Known m x

-- a union's discriminant, and the labels that the list says of it
pub record Switch (v : List ℕ) (m : List Kind) (d : Inner) : Type 0 where
  pub known : Known m d
  pub labels : Labels
  pub labelled : Labelled labels
  pub said : labels_for v m (place_in d) ≡ labels

pub record Switched (v : List ℕ) (m : List Kind) (g : Fields) (d : Inner) : Type 0 where
  pub by : Switch v m d
  pub members : AllKnown m (types_of (members_of by.labels v g))

-- all that stands inside a kind of these parameters is known
abbrev pub Closed : List ℕ → List Kind → Parameters → Type 0
Closed v m Fault = AllKnown m (types_by v Fault)
Closed v m (Flat i) = AllKnown m (types_by v (Flat i))
Closed v m (Struct g) = AllKnown m (types_by v (Struct g))
Closed v m (Exception g) = AllKnown m (types_by v (Exception g))
Closed v m (Union g d default) = Switched v m g d
Closed v m (Sequence x bound) = AllKnown m (types_by v (Sequence x bound))
Closed v m (Array x n) = AllKnown m (types_by v (Array x n))
Closed v m (Alias x) = AllKnown m (types_by v (Alias x))

-- the kind at a position is written inside a kind of these parameters; a union's members by labels that the kinds before it say
pub data Lodged (v : List ℕ) (m : List Kind) (p : Parameters) (j : ℕ) : Type 0 where
  typed : Among (Here (kind_no m j)) (types_by v p) → Lodged v m p j
  member : {g : Fields} {d : Inner} {default : ℕ} → p ≡ Union g d default → (m₁ : List Kind) → Grows m₁ m → length m₁ ≤ j → length m₁ ≤ 64
      → (s : Switch v m₁ d) → Among (Here (kind_no m j)) (types_of (members_of s.labels v g)) → Lodged v m p j

pub record Child (v : List ℕ) (m : List Kind) (j : ℕ) : Type 0 where
  pub parent : ℕ
  pub before : parent < j
  pub lodged : Lodged v m (parameters_at v (kind_no m parent)) j

abbrev pub Comes : List ℕ → List Kind → List Inner → ℕ → Type 0
Comes v m xs j = Among (Here (kind_no m j)) xs ⊎ Child v m j

-- from the list m to the list m', all inside a kind of these parameters was read
pub record Opens (v : List ℕ) (m m' : List Kind) (p : Parameters) : Type 0 where
  pub known : Closed v m' p
  pub born : (j : ℕ) → length m ≤ j → j < length m' → Lodged v m' p j ⊎ Child v m' j

-- the list of a type that was read to its end
pub record Complete (v : List ℕ) (order : Order) (m : List Kind) : Type 0 where
  pub some : 0 < length m
  pub most : length m ≤ 64
  pub top : kind_no m 0 ≡ top_kind order
  pub rises : Rises m
  pub good : (j : ℕ) → j < length m → Good v m j
  pub closes : (j : ℕ) → j < length m → Closed v m (parameters_at v (kind_no m j))
  pub child : (j : ℕ) → 0 < j → j < length m → Child v m j

-- ---- what stays when the list has grown

module _ (v : List ℕ) (m m' : List Kind) (g : Grows m m') where
  pub all-grow : (xs : List Inner) → AllKnown m xs → AllKnown m' xs
  all-grow xs h x a = known-grows m m' g x (h x a)

  unfoldable pub switch-grows : (d : Inner) → Switch v m d → Switch v m' d
  switch-grows d s =
      record {
        known = known-grows m m' g d s.known;
        labels = s.labels;
        labelled = s.labelled;
        said = labels-grow v m m' (place_in d) g (subst Labelled (sym s.said) s.labelled) ∙ s.said;
      }

  closed-by : (p : Parameters) → Closed v m p → Closed v m' p
  unfolding switch-grows
  closed-by Fault h = all-grow [] h
  closed-by (Flat i) h = all-grow [] h
  closed-by (Struct f) h = all-grow (types_by v (Struct f)) h
  closed-by (Exception f) h = all-grow (types_by v (Exception f)) h
  closed-by (Union f d default) h = record { by = switch-grows d h.by; members = all-grow (types_of (members_of h.by.labels v f)) h.members }
  closed-by (Sequence x bound) h = all-grow (x ∷ []) h
  closed-by (Array x n) h = all-grow (x ∷ []) h
  closed-by (Alias x) h = all-grow (x ∷ []) h

  pub closed-grows : (j : ℕ) → j < length m → Closed v m (parameters_at v (kind_no m j)) → Closed v m' (parameters_at v (kind_no m' j))
  closed-grows j l h = rw (kind-again m m' j g l) (closed-by (parameters_at v (kind_no m j)) h)

  among-again : (j : ℕ) → j < length m → (xs : List Inner) → Among (Here (kind_no m j)) xs → Among (Here (kind_no m' j)) xs
  among-again j l xs h = subst (λ (a : Kind). Among (Here a) xs) (sym (kind-again m m' j g l)) h

  pub lodged-grows : (p : Parameters) (j : ℕ) → j < length m → Lodged v m p j → Lodged v m' p j
  lodged-grows p j l (typed h) = typed (among-again j l (types_by v p) h)
  lodged-grows p j l (member {g = f} e m₁ g₁ few most s h) =
      member e m₁ (grows-on g₁ g) few most s (among-again j l (types_of (members_of s.labels v f)) h)

  pub child-grows : (j : ℕ) → j < length m → Child v m j → Child v m' j
  child-grows j l c =
      record {
        parent = c.parent;
        before = c.before;
        lodged = rw (kind-again m m' c.parent g (omega (arith, c.before))) (lodged-grows (parameters_at v (kind_no m c.parent)) j l c.lodged);
      }

  pub comes-grows : (xs : List Inner) (j : ℕ) → j < length m → Comes v m xs j → Comes v m' xs j
  comes-grows xs j l (inl h) = inl (among-again j l xs h)
  comes-grows xs j l (inr c) = inr (child-grows j l c)

-- ---- a kind that was read to its end

pub opens-child : (v : List ℕ) (m m' : List Kind) (i : ℕ) (p : Parameters) → parameters_at v (kind_no m' i) ≡ p → Opens v m m' p
    → (j : ℕ) → i < j → length m ≤ j → j < length m' → Child v m' j
opens-child v m m' i p e h j a l k = go (h.born j l k)
  where
    go : Lodged v m' p j ⊎ Child v m' j → Child v m' j
    go (inl s) = record { parent = i; before = a; lodged = subst (λ (q : Parameters). Lodged v m' q j) (sym e) s }
    go (inr c) = c

-- ---- lists of types

pub one_known : (m : List Kind) (x : Inner) → Known m x → AllKnown m (x ∷ [])
one_known m x k y first = k
one_known m x k y (later h) = no-among y h

pub more-known : (m : List Kind) (x : Inner) (xs : List Inner) → Known m x → AllKnown m xs → AllKnown m (x ∷ xs)
more-known m x xs k h y first = k
more-known m x xs k h y (later a) = h y a

-- a kind that comes with one type comes with a list that has it
pub comes-first : (v : List ℕ) (m : List Kind) (x : Inner) (xs : List Inner) (j : ℕ) → Comes v m (x ∷ []) j → Comes v m (x ∷ xs) j
comes-first v m x xs j (inl h) = inl (go (Here (kind_no m j)) h)
  where
    go : (y : Inner) → Among y (x ∷ []) → Among y (x ∷ xs)
    go y first = first
    go y (later h) = no-among y h
comes-first v m x xs j (inr c) = inr c

pub comes-later : (v : List ℕ) (m : List Kind) (x : Inner) (xs : List Inner) (j : ℕ) → Comes v m xs j → Comes v m (x ∷ xs) j
comes-later v m x xs j (inl h) = inl (later h)
comes-later v m x xs j (inr c) = inr c

-- a kind that comes with the types of parameters
pub comes-typed : (v : List ℕ) (m : List Kind) (p : Parameters) (j : ℕ) → Comes v m (types_by v p) j → Lodged v m p j ⊎ Child v m j
comes-typed v m p j (inl h) = inl (typed h)
comes-typed v m p j (inr c) = inr c

-- of the kinds that come with one type alone, all but the first are written inside another
pub comes-child : (v : List ℕ) (m : List Kind) (x : Inner) → Rises m → (j : ℕ) → 0 < j → j < length m → Comes v m (x ∷ []) 0 → Comes v m (x ∷ []) j → Child v m j
comes-child v m x r j o l (inl h) (inl k) = absurd (omega (arith, r 0 j o l, ap (λ (y : Inner). (place_in y).0) (only_one h ∙ sym (only_one k))))
  where
    only_one : {y z : Inner} → Among y (z ∷ []) → y ≡ z
    only_one first = refl
    only_one (later h) = no-among _ h
comes-child v m x r j o l (inl h) (inr c) = c
comes-child v m x r j o l (inr d) k = absurd (omega (arith, d.before))
