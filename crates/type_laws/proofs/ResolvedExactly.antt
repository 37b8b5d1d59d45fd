-- 64 kinds are enough to resolve a discriminant: a way that ends meets no kind twice.
use mathlib.Core.Path.{◌≡◌, refl, sym, ◌∙◌, ap, subst}
use lib.ListN.{length}
use mathlib.Core.List.{List}
use mathlib.Core.Bool.{Bool, true, false, ◌&&◌, false≢true, true≢false}
use Prim.Native.Nat.{ℕ, zero, suc, ◌+◌, ◌≤◌, ◌<◌}
use native.Mathlib.Nat.{zero-add, suc-add, add_comm}
use native.Mathlib.Omega.{arith}
use borrow.Author.Tests.{lt-ltb, ltb-true}
use lib.Dec.{ltb}
use Rattle.choices.proofs.Choices.{by-test, and-true}
use Rattle.cdr.specs.declared.Place.{Place}
use Rattle.type_kinds.specs.declared.Inner.{Inner}
use Rattle.type_kinds.specs.declared.Labels.{Labels}
use Rattle.type_kinds.specs.declared.Kind.{Kind}
use Rattle.type_unions.specs.declared.Discriminant.{Discriminant}
use Rattle.type_unions.specs.declared.Discriminant.TheVariants.{Through, Says}
use Rattle.type_loops.proofs.SomeBelow.{count_below, count-le, count-lt, count-all}
use Rattle.type_kinds.specs.Parts.{place_in}
use Rattle.type_list.specs.Met.{find_kind, parameters_of, found_at}
use Rattle.type_unions.specs.Discriminants.{discriminant_of, on_discriminant, labels_after, labels_for}
use Rattle.type_laws.proofs.Sound.{Labelled}
use Rattle.type_laws.proofs.ListGrows.{Low, found-low, found_nowhere}
use Rattle.type_laws.proofs.Resolves.{Resolves}
use Rattle.type_laws.proofs.Resolves.Resolves.{says, through}

module _ (v : List ℕ) (m : List Kind) where
  abbrev ends : (Place → Bool) → Discriminant → Bool
  ends f (Through x) = f (place_in x)
  ends f (Says labels) = true

  start-listed : (labels : Labels) (p : Place) → Resolves v m labels p → Low m p
  start-listed labels p (says a e) = a
  start-listed labels p (through x a e r) = a

  -- the way from the kind at a position ends, and goes through at most so many kinds
  unfoldable within : ℕ → ℕ → Bool
  within zero j = false
  within (suc l) j = ends (λ q. ltb (find_kind m q) (length m) && within l (find_kind m q)) (discriminant_of (parameters_of v m j))

  within_more : (l j : ℕ) → within l j ≡ true → within (suc l) j ≡ true
  unfolding within
  within_more zero j e = absurd (false≢true e)
  within_more (suc l) j e = by_said (discriminant_of (parameters_of v m j)) e (λ k. within_more l k)
    where
      by_said : (d : Discriminant) → ends (λ q. ltb (find_kind m q) (length m) && within l (find_kind m q)) d ≡ true → ((k : ℕ) → within l k ≡ true → within (suc l) k ≡ true)
          → ends (λ q. ltb (find_kind m q) (length m) && within (suc l) (find_kind m q)) d ≡ true
      by_said (Through x) e f =
          let q = place_in x in
          let a = and-true (ltb (find_kind m q) (length m)) (within l (find_kind m q)) e in
          rw a.0 (f (find_kind m q) a.1)
      by_said (Says labels) e f = refl

  -- where a way needs one kind more, so does the rest of it
  rest-needs : (l j : ℕ) → within (suc (suc l)) j ≡ true → within (suc l) j ≡ false
      → (k : ℕ) × (k < length m) × (within (suc l) k ≡ true) × (within l k ≡ false)
  unfolding within
  rest-needs l j e f = by_said (discriminant_of (parameters_of v m j)) e f
    where
      by_said : (d : Discriminant) → ends (λ q. ltb (find_kind m q) (length m) && within (suc l) (find_kind m q)) d ≡ true
          → ends (λ q. ltb (find_kind m q) (length m) && within l (find_kind m q)) d ≡ false
          → (k : ℕ) × (k < length m) × (within (suc l) k ≡ true) × (within l k ≡ false)
      by_said (Through x) e f =
          let q = place_in x in
          let a = and-true (ltb (find_kind m q) (length m)) (within (suc l) (find_kind m q)) e in
          (find_kind m q, ltb-true (find_kind m q) (length m) a.0, a.1, rw a.0 at f)
      by_said (Says labels) e f = absurd (true≢false f)

  -- as many kinds are met as are needed
  needed : (l j : ℕ) → j < length m → within (suc l) j ≡ true → within l j ≡ false → l < count_below (length m) (within (suc l))
  needed zero j a e f = omega (arith, count-lt (length m) (within 0) (within 1) j a f e (λ z k q. within_more 0 z q))
  needed (suc l) j a e f =
      let c = count-lt (length m) (within (suc l)) (within (suc (suc l))) j a f e (λ z k q. within_more (suc l) z q) in
      let r = rest-needs l j e f in
      omega (arith, c, needed l r.0 r.1 r.2 r.3)

  -- so no way needs more kinds than there are
  one_fewer : (l j : ℕ) → j < length m → length m ≤ l → within (suc l) j ≡ true → within l j ≡ true
  one_fewer l j a h e =
      by-test (within l j) (λ t. t) (λ t.
      let c = count-le (length m) (within (suc l)) (λ z. true) (λ z k q. refl) in
      absurd (omega (arith, needed l j a e t, c, count-all (length m))))

  as-few : (n l j : ℕ) → j < length m → length m ≤ l → within (n + l) j ≡ true → within l j ≡ true
  as-few zero l j a h e = subst (λ (x : ℕ). within x j ≡ true) (zero-add l) e
  as-few (suc n) l j a h e = as-few n l j a h (one_fewer (n + l) j a (omega arith) (subst (λ (x : ℕ). within x j ≡ true) (suc-add n l) e))

  as_many : (n l j : ℕ) → within l j ≡ true → within (n + l) j ≡ true
  as_many zero l j e = subst (λ (x : ℕ). within x j ≡ true) (sym (zero-add l)) e
  as_many (suc n) l j e = subst (λ (x : ℕ). within x j ≡ true) (sym (suc-add n l)) (within_more (n + l) j (as_many n l j e))

  enough : length m ≤ 64 → (l j : ℕ) → j < length m → within l j ≡ true → within 64 j ≡ true
  enough h l j a e = as-few l 64 j a h (subst (λ (x : ℕ). within x j ≡ true) (add_comm 64 l) (as_many 64 l j e))

  -- ---- what is resolved

  ways-end : (labels : Labels) (p : Place) → Resolves v m labels p → (l : ℕ) × (within l (find_kind m p) ≡ true)
  unfolding within
  ways-end labels p (says a e) = (1, rw e)
  ways-end labels p (through x a e r) =
      let w = ways-end labels (place_in x) r in
      (suc w.0, rw (e, lt-ltb (find_kind m (place_in x)) (length m) (start-listed labels (place_in x) r)) w.1)

  said_in : (l : ℕ) (labels : Labels) (p : Place) → Resolves v m labels p → within l (find_kind m p) ≡ true → labels_after v m l p ≡ labels
  unfolding within labels_after
  said_in zero labels p r w = absurd (false≢true w)
  said_in (suc l) labels p (says a e) w = rw (found-low v m p a, e)
  said_in (suc l) labels p (through x a e r) w =
      let q = place_in x in
      let w' : (ltb (find_kind m q) (length m) && within l (find_kind m q)) ≡ true = rw e at w in
      rw (found-low v m p a, e) (said_in l labels q r (and-true (ltb (find_kind m q) (length m)) (within l (find_kind m q)) w').1)

  resolves-by : (l : ℕ) (labels : Labels) (p : Place) → Labelled labels → labels_after v m l p ≡ labels → Resolves v m labels p
  unfolding labels_after
  resolves-by zero labels p t e = absurd (subst Labelled (sym e) t)
  resolves-by (suc l) labels p t e = by-found (ltb (find_kind m p) (length m)) refl e (λ x. resolves-by l labels (place_in x) t)
    where
      by_said : (d : Discriminant) → discriminant_of (parameters_of v m (find_kind m p)) ≡ d → Low m p → on_discriminant d (λ x. labels_after v m l (place_in x)) ≡ labels
          → ((x : Inner) → labels_after v m l (place_in x) ≡ labels → Resolves v m labels (place_in x)) → Resolves v m labels p
      by_said (Through x) r a e f = through x a r (f x e)
      by_said (Says x) r a e f = says a (r ∙ ap Says e)

      by-found : (b : Bool) → ltb (find_kind m p) (length m) ≡ b
          → on_discriminant (discriminant_of (found_at v m p)) (λ x. labels_after v m l (place_in x)) ≡ labels
          → ((x : Inner) → labels_after v m l (place_in x) ≡ labels → Resolves v m labels (place_in x)) → Resolves v m labels p
      by-found true b e f =
          let a = ltb-true (find_kind m p) (length m) b in
          by_said (discriminant_of (parameters_of v m (find_kind m p))) refl a (rw (found-low v m p a) at e) f
      by-found false b e f = absurd (subst Labelled (sym (rw (found_nowhere v m p b) at e)) t)

  -- a discriminant has labels exactly when its place is resolved to them, through however many aliases
  pub resolved-exactly : length m ≤ 64 → (labels : Labels) (p : Place) → Labelled labels
      → (labels_for v m p ≡ labels → Resolves v m labels p) × (Resolves v m labels p → labels_for v m p ≡ labels)
  unfolding labels_for
  resolved-exactly h labels p t = (
    resolves-by 64 labels p t,
    (λ r. let w = ways-end labels p r in said_in 64 labels p r (enough h w.0 (find_kind m p) (start-listed labels p r) w.1)),
  )
