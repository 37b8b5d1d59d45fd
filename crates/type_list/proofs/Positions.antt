-- Where a place is found in the list of kinds, turn by turn, and its position.
use Rattle.std.specs.Prelude.{Some, None}
use mathlib.Core.Path.{◌≡◌, refl, ap, subst, ◌∙◌}
use mathlib.Core.List.{List}
use mathlib.Core.Bool.{Bool, true, false, cond}
use Prim.Native.Nat.{ℕ, zero, suc, ◌+◌, ◌≤◌, ◌<◌}
use native.Mathlib.Omega.{arith}
use borrow.Author.Tests.{lt-ltb, le-ltb, ltb-true}
use lib.Dec.{ltb, eqb}
use lib.ListN.{length, get_or, take, drop}
use Rattle.std.specs.List.{position_or_len}
use Rattle.std.proofs.Common.{drop-cons, length-take}
use Rattle.choices.specs.Branch.{choose}
use Rattle.choices.proofs.Choices.{by-test, clash}
use Rattle.cdr.specs.declared.Place.{Place}
use Rattle.type_kinds.specs.declared.Kind.{Kind}
use Rattle.type_list.specs.declared.Met.{Met}
use Rattle.type_list.specs.Met.{find_kind, position_of}
use Rattle.type_list.specs.Arrays.{kinds_from, kinds_held, kinds_met}
use Rattle.type_list.proofs.KindsMet.{length-kinds}

-- a place is found among the places held where its kind stands in the list
module _ (m : Met) (p : Place) where
  found_from : (n i : ℕ) → i + n ≤ length m.places → position_or_len (λ x. eqb x p.0) (take n (drop i m.places)) ≡ find_kind (kinds_from m n i) p
  unfolding kinds_from find_kind choose
  found_from zero i h = refl
  found_from (suc n) i h =
      let z : suc i ≡ i + 1 = omega arith in
      rw (drop-cons m.places i 0 (omega arith), z)
      (by-test (eqb (get_or m.places i 0) p.0) (λ t. rw t) (λ t. rw t (omega (arith, found_from n (i + 1) (omega arith)))))

  pub place-found : (n : ℕ) → n ≡ kinds_held m → length m.places ≡ 64
      → cond (ltb (position_or_len (λ x. eqb x p.0) (take n m.places)) (length (take n m.places))) (Some (position_or_len (λ x. eqb x p.0) (take n m.places))) None
      ≡ position_of (kinds_met m) p
  unfolding kinds_met position_of
  place-found n e l =
      let found = found_from n 0 (omega arith) ∙ ap (λ (x : ℕ). find_kind (kinds_from m x 0) p) e in
      let long : length (take n m.places) ≡ length (kinds_met m) = omega (arith, length-take n m.places, length-kinds m) in
      rw (found, long)

module _ (ks : List Kind) (p : Place) where
  pub position-is : (i : ℕ) → find_kind ks p ≡ i → i < length ks → position_of ks p ≡ Some i
  unfolding position_of
  position-is i e h = rw (e, lt-ltb i (length ks) h)

  pub position-none : find_kind ks p ≡ length ks → position_of ks p ≡ None
  unfolding position_of
  position-none e = rw (e, le-ltb (length ks) (length ks) (omega arith))

  by-found : (t : Bool) → ltb (find_kind ks p) (length ks) ≡ t → (i : ℕ) → position_of ks p ≡ Some i → (find_kind ks p ≡ i) × (i < length ks)
  unfolding position_of
  by-found true t i e =
      let q : (Some (find_kind ks p)) ≡ Some i = rw t at e in
      let z : find_kind ks p ≡ i = cc in
      (z, subst (λ (x : ℕ). x < length ks) z (ltb-true (find_kind ks p) (length ks) t))
  by-found false t i e = let q : None ≡ Some i = rw t at e in clash cc

  -- a position is where the place is found
  pub position-facts : (i : ℕ) → position_of ks p ≡ Some i → (find_kind ks p ≡ i) × (i < length ks)
  position-facts i e = by-found _ refl i e

  by-nowhere : (t : Bool) → ltb (find_kind ks p) (length ks) ≡ t → position_of ks p ≡ None → ltb (find_kind ks p) (length ks) ≡ false
  unfolding position_of
  by-nowhere true t e = let q : (Some (find_kind ks p)) ≡ None = rw t at e in clash cc
  by-nowhere false t e = t

  pub position-nowhere : position_of ks p ≡ None → ltb (find_kind ks p) (length ks) ≡ false
  position-nowhere e = by-nowhere _ refl e
