-- The place of a request id: where one is found it has the open message of that id, and where none is found no place has it.
use Rattle.std.specs.Prelude.{Option, Some, None}
use mathlib.Core.Path.{◌≡◌, sym, subst, ◌∙◌}
use mathlib.Core.Bool.{true, false, false≢true}
use Prim.Native.Nat.{ℕ, ◌<◌}
use lib.Dec.{eqb}
use borrow.Author.Tests.{eqb-true, eq-eqb}
use Rattle.choices.proofs.Choices.{and-true}
use Rattle.join_places.specs.declared.Record.{Record}
use Rattle.join_places.specs.Places.{places_count, is_open, id_of, is_open_with, first_with, place_of_id}
use Rattle.join_places.proofs.FoldsChanged.{FirstOf, first-is}

pub record FoundAt (r : Record) (x i : ℕ) : Type 0 where
  pub place : i < places_count
  pub opened : is_open r i ≡ true
  pub id : id_of r i ≡ x

abbrev pub OpenNowhere : Record → ℕ → Type 0
OpenNowhere r id = (i : ℕ) → i < places_count → is_open r i ≡ true → id_of r i ≡ id → ⊥

abbrev pub Placed : Record → ℕ → Option ℕ → Type 0
Placed r id (Some i) = FoundAt r id i
Placed r id None = OpenNowhere r id

module _ (r : Record) (id : ℕ) where
  found_at : (i : ℕ) → i < places_count → is_open_with r id i ≡ true → FoundAt r id i
  unfolding is_open_with
  found_at i h e =
      let both = and-true (is_open r i) (eqb (id_of r i) id) e in
      record { place = h; opened = both.0; id = eqb-true (id_of r i) id both.1 }

  not-with : (i : ℕ) → is_open_with r id i ≡ false → is_open r i ≡ true → id_of r i ≡ id → ⊥
  unfolding is_open_with
  not-with i e o f = false≢true (sym e ∙ rw (o, eq-eqb (id_of r i) id f))

  by_first : (f : Option ℕ) → FirstOf (is_open_with r id) places_count f → Placed r id f
  by_first (Some i) f = found_at i f.place f.here
  by_first None each = λ i h. not-with i (each i h)

  pub place_is : Placed r id (place_of_id r id)
  unfolding place_of_id
  place_is = by_first (first_with (is_open_with r id) places_count) (first-is (is_open_with r id) places_count)

  pub place_found : (i : ℕ) → place_of_id r id ≡ Some i → FoundAt r id i
  place_found i e = subst (Placed r id) e place_is

  pub place-nowhere : place_of_id r id ≡ None → OpenNowhere r id
  place-nowhere e = subst (Placed r id) e place_is
