-- What is added to a table of steps: nothing, two things, and the step to the kind at a place.
use Rattle.std.specs.Prelude.{Some, None}
use mathlib.Core.Path.{◌≡◌, refl, sym, ◌∙◌, ap}
use mathlib.Core.List.{List}
use mathlib.Core.Bool.{Bool, true, false, ◌&&◌, ◌||◌, and-false}
use Prim.Native.Nat.{ℕ, ◌≤◌, ◌<◌}
use native.Mathlib.Omega.{arith}
use borrow.Author.Tests.{eq-eqb, ne_eqb, eqb-true, eqb-false, ltb-false}
use lib.Dec.{eqb}
use lib.ListN.{length}
use Rattle.choices.proofs.Choices.{by-test}
use Rattle.cdr.specs.declared.Place.{Place}
use Rattle.type_loops.specs.Loops.{cell, with_step}
use Rattle.type_numbers.specs.{kinds_limit}
use Rattle.type_loops.proofs.CellsAfter.{with_cell, with-length}
use Rattle.type_kinds.specs.declared.Kind.{Kind}
use Rattle.type_list.specs.Met.{find_kind, position_of}
use Rattle.type_list.proofs.Positions.{position-facts, position-nowhere}
use Rattle.type_steps.specs.Steps.{stands}
use Rattle.type_steps.specs.Inner.{Noted}

none-added : (c e : Bool) → c ≡ (c || (e && false))
none-added true e = refl
none-added false e = sym (and-false e)

added-both : (c e f g : Bool) → ((c || (e && f)) || (e && g)) ≡ (c || (e && (f || g)))
added-both true e f g = refl
added-both false true f g = refl
added-both false false f g = refl

equal-turned : (x y : ℕ) → eqb x y ≡ eqb y x
equal-turned x y =
    by-test (eqb y x)
    (λ t. eq-eqb x y (sym (eqb-true y x t)) ∙ sym t)
    (λ t. ne_eqb x y (λ q. eqb-false y x t (sym q)) ∙ sym t)

module _ (n : ℕ) (before : List ℕ) (i : ℕ) where
  pub noted-none : (f : ℕ → Bool) → ((z : ℕ) → z < n → f z ≡ false) → Noted n before i f before
  noted-none f h = record { long = refl; cells = λ x z k. rw (h z k) (none-added (cell before x z) (eqb x i)) }

  pub noted-same : (f g : ℕ → Bool) (after : List ℕ) → ((z : ℕ) → z < n → f z ≡ g z) → Noted n before i f after → Noted n before i g after
  noted-same f g after h d =
      record { long = d.long; cells = λ x z k. d.cells x z k ∙ ap (λ (b : Bool). cell before x z || (eqb x i && b)) (h z k) }

  pub noted-both : (f g : ℕ → Bool) (between after : List ℕ) → Noted n before i f between → Noted n between i g after
      → Noted n before i (λ z. f z || g z) after
  noted-both f g between after d e =
      record {
        long = e.long ∙ d.long;
        cells = λ x z k.
            e.cells x z k ∙ ap (λ (b : Bool). b || (eqb x i && g z)) (d.cells x z k)
            ∙ added-both (cell before x z) (eqb x i) (f z) (g z);
      }

-- a kind's step to the kind at a place
module _ (m : List Kind) (p : Place) (i : ℕ) (rows : List ℕ) where
  pub noted-nowhere : position_of m p ≡ None → Noted (length m) rows i (stands m p) rows
  noted-nowhere e =
      let past = ltb-false (find_kind m p) (length m) (position-nowhere m p e) in
      noted-none (length m) rows i (stands m p) (λ z k. ne_eqb (find_kind m p) z (λ q. omega (arith, k, past, q)))

  module _ (j : ℕ) (e : position_of m p ≡ Some j) where
    stands_at : (z : ℕ) → eqb j z ≡ stands m p z
    stands_at z = ap (λ (x : ℕ). eqb x z) (sym (position-facts m p j e).0)

    pub noted-at : length m ≤ kinds_limit → i < length rows → (after : List ℕ) → after ≡ with_step rows i j
        → Noted (length m) rows i (stands m p) after
    noted-at few h after q =
        let low : j < kinds_limit = omega (arith, few, (position-facts m p j e).1) in
        rw q
        (record {
          long = with-length rows i j h low;
          cells = λ x z k.
              with_cell rows i j h low x z
              ∙ ap (λ (b : Bool). cell rows x z || (eqb x i && b)) (equal-turned z j ∙ stands_at z);
        })
