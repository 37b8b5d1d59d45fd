-- The list of a type that was read to its end has the kinds written in it, each once, in order of place.
use mathlib.Core.Path.{◌≡◌, refl, sym, ◌∙◌, ap, subst}
use mathlib.Core.List.{List, [], ◌∷◌}
use Prim.Native.Nat.{ℕ, zero, suc, ◌<◌}
use native.Mathlib.Omega.{arith}
use borrow.Author.Tests.{ltb-true, ltb-false}
use lib.Dec.{ltb}
use lib.ListN.{length}
use Rattle.choices.specs.Lists.{Among}
use Rattle.choices.specs.Lists.Among.{first, later}
use Rattle.choices.proofs.Choices.{by-test, clash}
use Rattle.cdr.specs.declared.Place.{Place}
use Rattle.cdr.specs.declared.Order.{Order}
use Rattle.type_kinds.specs.declared.Inner.{Inner}
use Rattle.type_kinds.specs.declared.Inner.TheVariants.{Here, There}
use Rattle.type_kinds.specs.declared.Fields.{Fields}
use Rattle.type_kinds.specs.declared.Labels.{Labels}
use Rattle.type_parameters.specs.declared.Parameters.{Parameters}
use Rattle.type_parameters.specs.declared.Parameters.TheVariants.{Fault, Flat, Struct, Exception, Union, Sequence, Array, Alias}
use Rattle.type_kinds.specs.declared.Kind.{Kind}
use Rattle.type_unions.specs.declared.Discriminant.TheVariants.{Through, Says}
use Rattle.type_kinds.specs.Parts.{place_in}
use Rattle.type_kinds.specs.Members.{members_of, types_of}
use Rattle.type_parameters.specs.Parameters.{parameters_at}
use Rattle.type_list.specs.Met.{find_kind, kind_no, parameters_of}
use Rattle.type_unions.specs.Discriminants.{discriminant_of}
use Rattle.type_laws.specs.Written.{types_by, KindWritten, Inside, Tells}
use Rattle.type_laws.specs.Written.KindWritten.{top, inside}
use Rattle.type_laws.specs.Written.Inside.{typed, member}
use Rattle.type_laws.specs.Written.Tells.{itself, aliased, target}
use Rattle.type_laws.specs.Loops.{Ascending, Listed}
use Rattle.type_laws.proofs.Sound.{Entry, Known}
use Rattle.type_laws.proofs.Resolves.{Resolves}
use Rattle.type_laws.proofs.Resolves.Resolves.{says, through}
use Rattle.type_laws.proofs.ListGrows.{Grows, known-grows, place-again, parameters-again}
use Rattle.type_laws.proofs.InnerKnown.{no-among, Rises, Switch, Closed, Lodged, Complete}
use Rattle.type_laws.proofs.InnerKnown.Lodged.{typed as in-types, member as in_members}
use Rattle.type_laws.proofs.PlaceFound.{found-place, entry_found}
use Rattle.type_laws.proofs.ResolvedExactly.{resolved-exactly}

pub single : {A : Type 0} {x y : A} → Among x (y ∷ []) → x ≡ y
single first = refl
single (later h) = no-among _ h

-- parameters that are a union's are one union's
pub same-union : {g g' : Fields} {d d' : Inner} {n n' : ℕ} → Union g d n ≡ Union g' d' n' → (g ≡ g') × (d ≡ d')
same-union e = (cc, cc)

-- an entry has a position
pub among-at : (b : Kind) (m : List Kind) → Among b m → (j : ℕ) × (j < length m) × (kind_no m j ≡ b)
among-at b m first = (0, omega arith, refl)
among-at b m (later {xs = ms} h) = let z = among-at b ms h in (suc z.0, omega (arith, z.1), z.2)

at-among : (m : List Kind) (j : ℕ) → j < length m → Among (kind_no m j) m
at-among [] j l = absurd (omega arith)
at-among (a ∷ m) zero l = first
at-among (a ∷ m) (suc j) l = later (at-among m j (omega arith))

-- places that rise from position to position ascend
rises-ascending : (m : List Kind) → Rises m → Ascending m
rises-ascending [] r = tt
rises-ascending (a ∷ m) r = (
  (λ b y. let z = among-at b m y in subst (λ (x : Kind). a.place.0 < x.place.0) z.2 (r 0 (suc z.0) (omega arith) (omega (arith, z.1)))),
  rises-ascending m (λ i j k l. r (suc i) (suc j) (omega arith) (omega arith)),
)

module _ (v : List ℕ) (order : Order) (m : List Kind) (c : Complete v order m) where
  -- what the list says of a place is what the kind there says
  said-by : (a : Kind) → Entry m a → parameters_of v m (find_kind m a.place) ≡ parameters_at v a
  unfolding parameters_of
  said-by a k = ap (parameters_at v) (entry_found v order m c a k)

  said_at : (p : Place) → parameters_of v m (find_kind m p) ≡ parameters_at v (kind_no m (find_kind m p))
  unfolding parameters_of
  said_at p = refl

  -- ---- what stands inside an entry is known

  pub closed_at : (a : Kind) → Entry m a → Closed v m (parameters_at v a)
  closed_at a k = subst (λ (x : Kind). Closed v m (parameters_at v x)) k.2 (c.closes k.0 k.1)

  types-known : (p : Parameters) → Closed v m p → (x : Inner) → Among x (types_by v p) → Known m x
  types-known Fault h x y = h x y
  types-known (Flat i) h x y = h x y
  types-known (Struct g) h x y = h x y
  types-known (Exception g) h x y = h x y
  types-known (Union g d default) h x y = subst (Known m) (sym (single y)) h.by.known
  types-known (Sequence e bound) h x y = h x y
  types-known (Array e n) h x y = h x y
  types-known (Alias e) h x y = h x y

  typed-known : (a : Kind) → Entry m a → (x : Inner) → Among x (types_by v (parameters_at v a)) → Known m x
  typed-known a k x y = types-known (parameters_at v a) (closed_at a k) x y

  -- an alias leads to a type that is known
  alias-by : (p : Parameters) → Closed v m p → (x : Inner) → discriminant_of p ≡ Through x → Known m x
  alias-by Fault h x e = clash cc
  alias-by (Flat i) h x e = clash cc
  alias-by (Struct g) h x e = clash cc
  alias-by (Exception g) h x e = clash cc
  alias-by (Union g d default) h x e = clash cc
  alias-by (Sequence y bound) h x e = clash cc
  alias-by (Array y n) h x e = clash cc
  alias-by (Alias y) h x e = let q : y ≡ x = cc in subst (Known m) q (h y first)

  alias-known : (a : Kind) → Entry m a → (x : Inner) → discriminant_of (parameters_at v a) ≡ Through x → Known m x
  alias-known a k x e = alias-by (parameters_at v a) (closed_at a k) x e

  -- a union's discriminant resolves to the labels that the list says of it
  pub resolves : (d : Inner) (s : Switch v m d) → Resolves v m s.labels (place_in d)
  resolves d s = (resolved-exactly v m c.most s.labels (place_in d) s.labelled).0 s.said

  members-known : (a : Kind) → Entry m a → (g : Fields) (d x : Inner) (default : ℕ) (labels : Labels) → parameters_at v a ≡ Union g d default
      → Among x (types_of (members_of labels v g)) → (Known m d → (L : Labels) → Resolves v m L (place_in d) → labels ≡ L) → Known m x
  members-known a k g d x default labels e y f =
      let h = subst (Closed v m) e (closed_at a k) in
      let l : labels ≡ h.by.labels = f h.by.known h.by.labels (resolves d h.by) in
      h.members x (subst (λ (t : Labels). Among x (types_of (members_of t v g))) l y)

  -- ---- every kind written is an entry

  -- what a discriminant tells is what the list resolves it to, for a kind that tells itself and for one that is an alias
  itself-agrees : (a : Kind) → Entry m a → (labels : Labels) → discriminant_of (parameters_at v a) ≡ Says labels → (L : Labels) (p : Place) → a.place ≡ p
      → Resolves v m L p → labels ≡ L
  itself-agrees a k labels e L p q (says l r) =
      let z : Says labels ≡ Says L =
      sym e ∙ sym (ap discriminant_of (said-by a k)) ∙ subst (λ (x : Place). discriminant_of (parameters_of v m (find_kind m x)) ≡ Says L) (sym q) r in
      cc
  itself-agrees a k labels e L p q (through x l r h) =
      let z : Says labels ≡ Through x =
      sym e ∙ sym (ap discriminant_of (said-by a k)) ∙ subst (λ (y : Place). discriminant_of (parameters_of v m (find_kind m y)) ≡ Through x) (sym q) r in
      clash cc

  aliased-resolves : (a : Kind) → Entry m a → (x : Inner) → discriminant_of (parameters_at v a) ≡ Through x → (L : Labels) (p : Place) → a.place ≡ p
      → Resolves v m L p → Resolves v m L (place_in x)
  aliased-resolves a k x e L p q (says l r) =
      let z : Through x ≡ Says L =
      sym e ∙ sym (ap discriminant_of (said-by a k)) ∙ subst (λ (y : Place). discriminant_of (parameters_of v m (find_kind m y)) ≡ Says L) (sym q) r in
      clash cc
  aliased-resolves a k x e L p q (through t l r h) =
      let z : Through x ≡ Through t =
      sym e ∙ sym (ap discriminant_of (said-by a k)) ∙ subst (λ (y : Place). discriminant_of (parameters_of v m (find_kind m y)) ≡ Through t) (sym q) r in
      let y : t ≡ x = cc in
      subst (λ (u : Inner). Resolves v m L (place_in u)) y h

  aliased-agrees : (a : Kind) (x : Inner) (labels : Labels) → discriminant_of (parameters_at v a) ≡ Through x
      → (Known m x → (L : Labels) → Resolves v m L (place_in x) → labels ≡ L) → Entry m a → (L : Labels) → Resolves v m L a.place → labels ≡ L
  aliased-agrees a x labels e f k L r = f (alias-known a k x e) L (aliased-resolves a k x e L a.place refl r)

  -- every kind written is an entry: by what is written, what stands inside, and what is told of labels, together
  pub written_entry : (a : Kind) → KindWritten v order a → Entry m a
  written_entry a w =
      elim w as (λ a w. Entry m a) (λ a x i. Entry m a → Known m x) (λ x labels t. Known m x → (L : Labels) → Resolves v m L (place_in x) → labels ≡ L) [
        | top ↦ (0, c.some, c.top)
        | inside (w → kw) (i → ki) ↦ ki kw
        | typed {a = a} {x = x} y ↦ λ k. typed-known a k x y
        | member {a = a} {x = x} {d = d} {g = g} {default = default} {labels = labels} e (t → kt) y ↦ λ k. members-known a k g d x default labels e y kt
        | itself {a = a} {labels = labels} e ↦ λ k L r. itself-agrees a k labels e L a.place refl r
        | aliased {a = a} {x = x} {labels = labels} e (t → kt) ↦ λ k L r. aliased-agrees a x labels e kt k L r
        | target {a = a} (w → kw) q (t → kt) ↦ λ k L r. kt kw L (subst (Resolves v m L) (sym q) r)
      ]

  pub tells-agree : (x : Inner) (labels : Labels) → Tells v order x labels → Known m x → (L : Labels) → Resolves v m L (place_in x) → labels ≡ L
  tells-agree x labels (itself {a = a} e) k L r = itself-agrees a k labels e L a.place refl r
  tells-agree x labels (aliased {a = a} {x = y} e t) k L r = aliased-agrees a y labels e (tells-agree y labels t) k L r
  tells-agree x labels (target {a = a} w q t) k L r = tells-agree (Here a) labels t (written_entry a w) L (subst (Resolves v m L) (sym q) r)

  -- so a union's labels are those that the list says
  pub tells-said : (d : Inner) (s : Switch v m d) (labels : Labels) → Tells v order d labels → labels ≡ s.labels
  tells-said d s labels t = tells-agree d labels t s.known s.labels (resolves d s)

  pub inside-known : (a : Kind) (x : Inner) → Inside v order a x → Entry m a → Known m x
  inside-known a x (typed y) k = typed-known a k x y
  inside-known a x (member {d = d} {g = g} {default = default} {labels = labels} e t y) k = members-known a k g d x default labels e y (tells-agree d labels t)

  -- ---- every entry is a kind written

  -- what a list resolves a type to is what it tells, if the kinds of that list are written
  module _ (m₁ : List Kind) (g : Grows m₁ m) (all : (i : ℕ) → i < length m₁ → KindWritten v order (kind_no m i)) (L : Labels) where
    abbrev at_place : Place → Kind
    at_place p = kind_no m (find_kind m p)

    same_spot : (p : Place) → find_kind m₁ p < length m₁ → (find_kind m p ≡ find_kind m₁ p) × (find_kind m p < length m₁)
    same_spot p l = let e = place-again m₁ m p g l in (e, subst (λ (x : ℕ). x < length m₁) (sym e) l)

    same-said : (p : Place) → find_kind m₁ p < length m₁ → parameters_of v m₁ (find_kind m₁ p) ≡ parameters_at v (at_place p)
    same-said p l = sym (parameters-again v m₁ m (find_kind m₁ p) g l) ∙ ap (parameters_of v m) (sym (same_spot p l).0) ∙ said_at p

    tells_as : (x : Inner) → Known m x → (p : Place) → place_in x ≡ p → find_kind m₁ p < length m₁ → Tells v order (Here (at_place p)) L → Tells v order x L
    tells_as (Here a) k p q l t = subst (λ (z : Kind). Tells v order (Here z) L) (ap at_place (sym q) ∙ entry_found v order m c a k) t
    tells_as (There p') k p q l t =
        target (all (find_kind m p) (same_spot p l).1) (found-place v order m c p (omega (arith, (same_spot p l).1, g.count)) ∙ sym q) t

    pub tells-by : (p : Place) → Resolves v m₁ L p → (x : Inner) → Known m x → place_in x ≡ p → Tells v order x L
    tells-by p (says l e) x k q = tells_as x k p q l (itself (ap discriminant_of (sym (same-said p l)) ∙ e))
    tells-by p (through y l e r) x k q =
        let e' = ap discriminant_of (sym (same-said p l)) ∙ e in
        let n : find_kind m p < length m = omega (arith, (same_spot p l).1, g.count) in
        tells_as x k p q l (aliased e' (tells-by (place_in y) r y (alias-known (at_place p) (find_kind m p, n, refl) y e') refl))

  lodged-inside : (a : Kind) (j : ℕ) → j < length m → Lodged v m (parameters_at v a) j → ((i : ℕ) → i < j → KindWritten v order (kind_no m i))
      → Inside v order a (Here (kind_no m j))
  lodged-inside a j l (in-types y) w = typed y
  lodged-inside a j l (in_members {d = d} e m₁ g few most s y) w =
      member e
      (tells-by m₁ g (λ i k. w i (omega arith)) s.labels (place_in d) ((resolved-exactly v m₁ most s.labels (place_in d) s.labelled).0 s.said)
      d (known-grows m₁ m g d s.known) refl) y

  pub entry-written : (n j : ℕ) → j < n → j < length m → KindWritten v order (kind_no m j)
  entry-written zero j a l = absurd (omega arith)
  entry-written (suc n) j a l = go (λ i k. entry-written n i (omega arith) (omega arith))
    where
      go : ((i : ℕ) → i < j → KindWritten v order (kind_no m i)) → KindWritten v order (kind_no m j)
      go w =
          by-test (ltb 0 j)
          (λ t.
          let d = c.child j (ltb-true 0 j t) l in
          inside (w d.parent d.before) (lodged-inside (kind_no m d.parent) j l d.lodged w))
          (λ t.
          let z : 0 ≡ j = omega (arith, ltb-false 0 j t) in
          subst (λ (x : ℕ). KindWritten v order (kind_no m x)) z (subst (KindWritten v order) (sym c.top) top))

  pub all-written : (j : ℕ) → j < length m → KindWritten v order (kind_no m j)
  all-written j l = entry-written (suc j) j (omega arith) l

  -- ---- the list

  pub listed : Listed v order m
  listed =
      record {
        ascending = rises-ascending m c.rises;
        all = λ a. (
          (λ y. let z = among-at a m y in subst (KindWritten v order) z.2 (all-written z.0 z.1)),
          (λ w. let k = written_entry a w in subst (λ (x : Kind). Among x m) k.2 (at-among m k.0 k.1)),
        );
      }
