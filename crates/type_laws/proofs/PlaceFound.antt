-- In the list of a type that was read to its end each kind stands once, and is found by its place.
use mathlib.Core.Path.{◌≡◌, refl, sym, ◌∙◌, ap, subst}
use mathlib.Core.List.{List, [], ◌∷◌}
use mathlib.Core.Bool.{Bool, true, false}
use Prim.Native.Nat.{ℕ, suc, ◌<◌}
use native.Mathlib.Omega.{arith}
use borrow.Author.Tests.{eqb-true}
use lib.Dec.{eqb}
use lib.ListN.{length}
use Rattle.choices.specs.Branch.{choose}
use Rattle.cdr.specs.declared.Place.{Place}
use Rattle.cdr.specs.declared.Order.{Order}
use Rattle.type_kinds.specs.declared.Inner.{Inner}
use Rattle.type_kinds.specs.declared.Inner.TheVariants.{Here, There}
use Rattle.type_kinds.specs.declared.Kind.{Kind}
use Rattle.type_kinds.specs.Parts.{place_of, place_in}
use Rattle.type_parameters.specs.Parameters.{parameters_at}
use Rattle.type_list.specs.Met.{find_kind, kind_no, parameters_of, inside_of}
use Rattle.type_laws.proofs.Sound.{Entry, Known}
use Rattle.type_laws.proofs.ListGrows.{find_at, found-low}
use Rattle.type_laws.proofs.InnerKnown.{Complete}

find-right : (m : List Kind) (p : Place) → find_kind m p < length m → (kind_no m (find_kind m p)).place.0 ≡ p.0
unfolding find_kind choose
find-right [] p l = absurd (omega arith)
find-right (a ∷ m) p l = go (eqb a.place.0 p.0) refl l (λ k. find-right m p k)
  where
    go : (t : Bool) → eqb a.place.0 p.0 ≡ t → choose t (λ _. 0) (λ _. suc (find_kind m p)) < suc (length m)
        → (find_kind m p < length m → (kind_no m (find_kind m p)).place.0 ≡ p.0)
        → (kind_no (a ∷ m) (choose t (λ _. 0) (λ _. suc (find_kind m p)))).place.0 ≡ p.0
    go true e l h = eqb-true a.place.0 p.0 e
    go false e l h = h (omega arith)

module _ (v : List ℕ) (order : Order) (m : List Kind) (c : Complete v order m) where
  pub find-own : (j : ℕ) → j < length m → find_kind m (kind_no m j).place ≡ j
  find-own j l = find_at m (kind_no m j).place j l (λ i k. c.rises i j k l) refl

  -- each kind stands once in the list
  pub position-once : (i j : ℕ) → i < length m → j < length m → kind_no m i ≡ kind_no m j → i ≡ j
  position-once i j k l e = sym (find-own i k) ∙ ap (λ (x : Kind). find_kind m x.place) e ∙ find-own j l

  pub found-place : (p : Place) → find_kind m p < length m → (kind_no m (find_kind m p)).place ≡ p
  found-place p l = ap place_of (find-right m p l)

  -- an entry is found by its place
  entry-position : (a : Kind) → (k : Entry m a) → find_kind m a.place ≡ k.0
  entry-position a k = ap (λ (x : Kind). find_kind m x.place) (sym k.2) ∙ find-own k.0 k.1

  pub entry_found : (a : Kind) → Entry m a → kind_no m (find_kind m a.place) ≡ a
  entry_found a k = ap (λ (x : ℕ). kind_no m x) (entry-position a k) ∙ k.2

  pub known-low : (x : Inner) → Known m x → find_kind m (place_in x) < length m
  known-low (Here a) k = subst (λ (x : ℕ). x < length m) (sym (entry-position a k)) k.1
  known-low (There p) k = k

  -- what the list says of a place is what the type there says
  pub known-seen : (x : Inner) → Known m x → inside_of v m x ≡ parameters_of v m (find_kind m (place_in x))
  unfolding inside_of parameters_of
  known-seen (Here a) k = ap (parameters_at v) (sym (entry_found a k))
  known-seen (There p) k = found-low v m p k
