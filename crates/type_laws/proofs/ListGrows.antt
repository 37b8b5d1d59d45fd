-- The list of kinds met only grows: a place is found again at the same position, and what is sound stays so.
use mathlib.Core.Path.{◌≡◌, refl, sym, ◌∙◌, ap, subst}
use mathlib.Core.List.{List, [], ◌∷◌, ◌++◌}
use mathlib.Core.Bool.{Bool, true, false}
use Prim.Native.Nat.{ℕ, zero, suc, ◌≤◌, ◌<◌}
use native.Mathlib.Omega.{arith}
use borrow.Author.Tests.{eq-eqb, ne_eqb, ltb-true}
use lib.Dec.{ltb, eqb}
use lib.ListN.{length, length-append}
use Rattle.choices.specs.Branch.{choose}
use Rattle.choices.specs.Lists.{All}
use Rattle.cdr.specs.declared.Place.{Place}
use Rattle.type_kinds.specs.declared.Inner.{Inner}
use Rattle.type_kinds.specs.declared.Inner.TheVariants.{Here, There}
use Rattle.type_kinds.specs.declared.Fields.{Fields}
use Rattle.type_kinds.specs.declared.Labels.{Labels}
use Rattle.type_kinds.specs.declared.Labels.TheVariants.{NoLabels}
use Rattle.type_parameters.specs.declared.Parameters.{Parameters}
use Rattle.type_parameters.specs.declared.Parameters.TheVariants.{Fault, Flat, Struct, Exception, Union, Sequence, Array, Alias}
use Rattle.type_kinds.specs.declared.Kind.{Kind}
use Rattle.type_unions.specs.declared.Discriminant.{Discriminant}
use Rattle.type_unions.specs.declared.Discriminant.TheVariants.{Through, Says}
use Rattle.type_kinds.specs.Parts.{place_in}
use Rattle.type_kinds.specs.Members.{members_of, types_of}
use Rattle.type_parameters.specs.Parameters.{parameters_at}
use Rattle.type_list.specs.Met.{find_kind, kind_no, position_of, parameters_of, at_position, found_at, inside_of}
use Rattle.type_unions.specs.Discriminants.{discriminant_of, on_discriminant, labels_after, labels_for}
use Rattle.type_list.proofs.Positions.{position-is}
use Rattle.type_laws.proofs.Sound.{Known, Fitting, FieldsRead, Labelled, Sound, Good}

abbrev pub Low : List Kind → Place → Type 0
Low m p = find_kind m p < length m

pub record Grows (m m' : List Kind) : Type 0 where
  pub count : length m ≤ length m'
  pub same : (j : ℕ) → j < length m → kind_no m' j ≡ kind_no m j

pub grows_none : (m : List Kind) → Grows m m
grows_none m = record { count = omega arith; same = λ j l. refl }

pub grows-on : {m₁ m₂ m₃ : List Kind} → Grows m₁ m₂ → Grows m₂ m₃ → Grows m₁ m₃
grows-on g h =
    record {
      count = omega (arith, g.count, h.count);
      same = λ j l. h.same j (omega (arith, g.count)) ∙ g.same j l;
    }

-- one more kind
pub kind-before : (m : List Kind) (a : Kind) (j : ℕ) → j < length m → kind_no (m ++ (a ∷ [])) j ≡ kind_no m j
kind-before [] a j l = absurd (omega arith)
kind-before (b ∷ m) a zero l = refl
kind-before (b ∷ m) a (suc j) l = kind-before m a j (omega arith)

pub kind-last : (m : List Kind) (a : Kind) → kind_no (m ++ (a ∷ [])) (length m) ≡ a
kind-last [] a = refl
kind-last (b ∷ m) a = kind-last m a

pub grows-more : (m : List Kind) (a : Kind) → Grows m (m ++ (a ∷ []))
grows-more m a = record { count = omega (arith, length-append m (a ∷ [])); same = kind-before m a }

find-again : (m m' : List Kind) (p : Place) → length m ≤ length m' → ((j : ℕ) → j < length m → kind_no m' j ≡ kind_no m j) → find_kind m p < length m
    → find_kind m' p ≡ find_kind m p
unfolding find_kind choose
find-again [] m' p h e l = absurd (omega arith)
find-again (a ∷ m) [] p h e l = absurd (omega arith)
find-again (a ∷ m) (b ∷ m') p h e l =
    go (eqb a.place.0 p.0) refl l (λ k. find-again m m' p (omega arith) (λ j i. e (suc j) (omega arith)) k)
  where
    same : b ≡ a
    same = e 0 (omega arith)

    go : (t : Bool) → eqb a.place.0 p.0 ≡ t → choose (eqb a.place.0 p.0) (λ _. 0) (λ _. suc (find_kind m p)) < suc (length m)
        → (find_kind m p < length m → find_kind m' p ≡ find_kind m p)
        → choose (eqb b.place.0 p.0) (λ _. 0) (λ _. suc (find_kind m' p)) ≡ choose (eqb a.place.0 p.0) (λ _. 0) (λ _. suc (find_kind m p))
    go true q k f = rw (same, q)
    go false q k f =
        let k' : suc (find_kind m p) < suc (length m) = rw q at k in
        rw (same, q) (ap suc (f (omega arith)))

pub place-again : (m m' : List Kind) (p : Place) → Grows m m' → Low m p → find_kind m' p ≡ find_kind m p
place-again m m' p g l = find-again m m' p g.count g.same l

pub low_again : (m m' : List Kind) (p : Place) → Grows m m' → Low m p → Low m' p
low_again m m' p g l = rw (place-again m m' p g l) (omega (arith, g.count))

-- a place is found where it stands, if those before it are lower
pub find_at : (m : List Kind) (p : Place) (j : ℕ) → j < length m → ((i : ℕ) → i < j → (kind_no m i).place.0 < p.0) → (kind_no m j).place.0 ≡ p.0 → find_kind m p ≡ j
unfolding find_kind choose
find_at [] p j l h e = absurd (omega arith)
find_at (a ∷ m) p zero l h e = rw (eq-eqb _ _ e)
find_at (a ∷ m) p (suc j) l h e =
    rw (ne_eqb a.place.0 p.0 (λ q. omega (arith, h 0 (omega arith)))) (ap suc (find_at m p j (omega arith) (λ i k. h (suc i) (omega arith)) e))

pub parameters-again : (v : List ℕ) (m m' : List Kind) (j : ℕ) → Grows m m' → j < length m → parameters_of v m' j ≡ parameters_of v m j
unfolding parameters_of
parameters-again v m m' j g l = ap (parameters_at v) (g.same j l)

pub kind-again : (m m' : List Kind) (j : ℕ) → Grows m m' → j < length m → kind_no m' j ≡ kind_no m j
kind-again m m' j g l = g.same j l

pub known-grows : (m m' : List Kind) → Grows m m' → (x : Inner) → Known m x → Known m' x
known-grows m m' g (Here a) k = (k.0, omega (arith, k.1, g.count), kind-again m m' k.0 g k.1 ∙ k.2)
known-grows m m' g (There p) k = low_again m m' p g k

-- a place of the list has the parameters of its position
pub found-low : (v : List ℕ) (m : List Kind) (p : Place) → Low m p → found_at v m p ≡ parameters_of v m (find_kind m p)
unfolding found_at
found-low v m p h = ap (at_position v m) (position-is m p (find_kind m p) refl h)

pub found_nowhere : (v : List ℕ) (m : List Kind) (p : Place) → ltb (find_kind m p) (length m) ≡ false → found_at v m p ≡ Fault
unfolding found_at position_of
found_nowhere v m p e = rw e

found-again : (v : List ℕ) (m m' : List Kind) (p : Place) → Grows m m' → Low m p → found_at v m' p ≡ found_at v m p
found-again v m m' p g k =
    found-low v m' p (low_again m m' p g k) ∙ ap (parameters_of v m') (place-again m m' p g k)
    ∙ parameters-again v m m' (find_kind m p) g k ∙ sym (found-low v m p k)

pub inside-again : (v : List ℕ) (m m' : List Kind) → Grows m m' → (x : Inner) → Known m x → inside_of v m' x ≡ inside_of v m x
unfolding inside_of
inside-again v m m' g (Here a) k = refl
inside-again v m m' g (There p) k = found-again v m m' p g k

pub fitting-again : (v : List ℕ) (m m' : List Kind) → Grows m m' → (x : Inner) → Fitting v m x → Fitting v m' x
fitting-again v m m' g x h = (known-grows m m' g x h.0, rw (inside-again v m m' g x h.0) h.1)

all-again : (v : List ℕ) (m m' : List Kind) → Grows m m' → (xs : List Inner) → All (Fitting v m) xs → All (Fitting v m') xs
all-again v m m' g [] h = tt
all-again v m m' g (x ∷ xs) h = (fitting-again v m m' g x h.0, all-again v m m' g xs h.1)

fields-grow : (labels : Labels) (v : List ℕ) (m m' : List Kind) → Grows m m' → (f : Fields) → FieldsRead labels v m f → FieldsRead labels v m' f
fields-grow labels v m m' g f h = record { whole = h.whole; all = all-again v m m' g (types_of (members_of labels v f)) h.all }

-- labels that were said stay the same when the list has grown
labels-again : (v : List ℕ) (m m' : List Kind) (l : ℕ) (p : Place) → Grows m m' → Labelled (labels_after v m l p) → labels_after v m' l p ≡ labels_after v m l p
unfolding labels_after
labels-again v m m' zero p g a = refl
labels-again v m m' (suc l) p g a = by-found (ltb (find_kind m p) (length m)) refl (λ x b. labels-again v m m' l (place_in x) g b)
  where
    Same : Place → Type 0
    Same q = Labelled (labels_after v m l q) → labels_after v m' l q ≡ labels_after v m l q

    by_said : (d : Discriminant) → Labelled (on_discriminant d (λ x. labels_after v m l (place_in x))) → ((x : Inner) → Same (place_in x))
        → on_discriminant d (λ x. labels_after v m' l (place_in x)) ≡ on_discriminant d (λ x. labels_after v m l (place_in x))
    by_said (Through x) a f = f x a
    by_said (Says labels) a f = refl

    by-found : (t : Bool) → ltb (find_kind m p) (length m) ≡ t → ((x : Inner) → Same (place_in x))
        → on_discriminant (discriminant_of (found_at v m' p)) (λ x. labels_after v m' l (place_in x))
        ≡ on_discriminant (discriminant_of (found_at v m p)) (λ x. labels_after v m l (place_in x))
    by-found true e f =
        rw (found-again v m m' p g (ltb-true (find_kind m p) (length m) e)) (by_said (discriminant_of (found_at v m p)) a f)
    by-found false e f =
        absurd (subst (λ (q : Parameters). Labelled (on_discriminant (discriminant_of q) (λ x. labels_after v m l (place_in x)))) (found_nowhere v m p e) a)

pub labels-grow : (v : List ℕ) (m m' : List Kind) (p : Place) → Grows m m' → Labelled (labels_for v m p) → labels_for v m' p ≡ labels_for v m p
unfolding labels_for
labels-grow v m m' p g a = labels-again v m m' 64 p g a

-- what is sound stays so when the list has grown
pub sound-grows : (v : List ℕ) (m m' : List Kind) (x : Parameters) → Grows m m' → Sound v m x → Sound v m' x
sound-grows v m m' Fault g h = h
sound-grows v m m' (Flat i) g h = h
sound-grows v m m' (Struct f) g h = (h.0, fields-grow NoLabels v m m' g f h.1)
sound-grows v m m' (Exception f) g h = fields-grow NoLabels v m m' g f h
sound-grows v m m' (Union f d n) g h =
    let e = labels-grow v m m' (place_in d) g h.1 in
    (fitting-again v m m' g d h.0, rw e h.1, h.2, h.3, rw e (fields-grow (labels_for v m (place_in d)) v m m' g f h.4))
sound-grows v m m' (Sequence x n) g h = fitting-again v m m' g x h
sound-grows v m m' (Array x n) g h = (h.0, fitting-again v m m' g x h.1)
sound-grows v m m' (Alias x) g h = fitting-again v m m' g x h

pub good-grows : (v : List ℕ) (m m' : List Kind) (j : ℕ) → Grows m m' → j < length m → Good v m j → Good v m' j
good-grows v m m' j g l h =
    record {
      sound = rw (parameters-again v m m' j g l) (sound-grows v m m' (parameters_of v m j) g h.sound);
      below = λ z. rw (parameters-again v m m' j g l) (h.below z);
    }
