-- A kind's steps by its parameters, and the table filled kind by kind.
use mathlib.Core.Path.{◌≡◌, sym, ◌∙◌, ap, subst}
use lib.ListN.{length, replicate}
use mathlib.Core.List.{List, [], ◌∷◌}
use mathlib.Core.Bool.{Bool, false, ◌&&◌, ◌||◌, or-false}
use Prim.Native.Nat.{ℕ, ◌+◌, ◌≤◌}
use native.Mathlib.Omega.{arith}
use borrow.Author.Tests.{lt-ltb, le-ltb, eqb-true, eqb-false, ltb-true, ltb-false}
use lib.Dec.{ltb, eqb}
use Rattle.choices.proofs.Choices.{by-test}
use Rattle.choices.specs.Lists.{any_of}
use Rattle.cdr.specs.declared.Place.{Place}
use Rattle.type_kinds.specs.declared.Inner.{Inner}
use Rattle.type_kinds.specs.declared.Labels.{Labels}
use Rattle.type_kinds.specs.declared.Fields.{Fields}
use Rattle.type_parameters.specs.declared.Parameters.{Parameters}
use Rattle.type_parameters.specs.declared.Parameters.TheVariants.{Union}
use Rattle.type_kinds.specs.Parts.{place_in}
use Rattle.type_kinds.specs.Members.{members_of, types_of}
use Rattle.type_loops.specs.Loops.{loop_found, cell}
use Rattle.type_numbers.specs.{kinds_limit}
use Rattle.type_loops.proofs.CellsAfter.{none-cell}
use Rattle.type_loops.proofs.LoopDecided.{found-same}
use Rattle.type_kinds.specs.declared.Kind.{Kind}
use Rattle.type_list.specs.Met.{parameters_of}
use Rattle.type_unions.specs.Discriminants.{labels_for}
use Rattle.type_unions.specs.Shapes.{shape_of}
use Rattle.type_steps.specs.Steps.{stands, any_stands, steps_of, leads, steps}
use Rattle.type_steps.specs.Inner.{Noted, RowsFilled}
use Rattle.type_steps.proofs.StepNoted.{noted-none, noted-same, noted-both}

-- a kind's steps, by its parameters
module _ (v : List ℕ) (m : List Kind) (i : ℕ) (before : List ℕ) (x : Parameters) (e : parameters_of v m i ≡ x) where
  steps-by : (z : ℕ) → leads m z (shape_of v m x) ≡ steps v m i z
  unfolding steps
  steps-by z = ap (λ (y : Parameters). leads m z (shape_of v m y)) (sym e)

  pub noted-leads : (after : List ℕ) → Noted (length m) before i (λ z. leads m z (shape_of v m x)) after
      → Noted (length m) before i (steps v m i) after
  noted-leads after d = noted-same (length m) before i (λ z. leads m z (shape_of v m x)) (steps v m i) after (λ z k. steps-by z) d

  pub noted-no-leads : ((z : ℕ) → leads m z (shape_of v m x) ≡ false) → Noted (length m) before i (steps v m i) before
  noted-no-leads h = noted-leads before (noted-none (length m) before i (λ z. leads m z (shape_of v m x)) (λ z k. h z))

  -- one type alone
  pub noted_one : (y : Inner) (p : Place) → p ≡ place_in y → steps_of (shape_of v m x) ≡ y ∷ [] → (after : List ℕ) → Noted (length m) before i (stands m p) after
      → Noted (length m) before i (steps v m i) after
  unfolding any_of
  noted_one y p is q after d =
      noted-leads after
      (noted-same (length m) before i (stands m p) (λ z. leads m z (shape_of v m x)) after
      (λ z k. ap (λ (r : Place). stands m r z) is ∙ sym (or-false (stands m (place_in y) z)) ∙ ap (any_stands m z) (sym q)) d)

-- a union's steps, to its discriminant and to its members
pub noted-union : (v : List ℕ) (m : List Kind) (i : ℕ) (before : List ℕ) (f : Fields) (d : Inner) (default : ℕ)
    → parameters_of v m i ≡ Union f d default → (p : Place) → p ≡ place_in d → (labels : Labels) → labels ≡ labels_for v m p → (between after : List ℕ)
    → Noted (length m) before i (stands m p) between → Noted (length m) between i (λ z. any_stands m z (types_of (members_of labels v f))) after
    → Noted (length m) before i (steps v m i) after
unfolding steps_of shape_of any_of
noted-union v m i before f d default e p is labels q between after a b =
    noted-leads v m i before (Union f d default) e after
    (noted-both (length m) before i (stands m (place_in d)) (λ z. any_stands m z (types_of (members_of (labels_for v m (place_in d)) v f))) between after
    (subst (λ (r : Place). Noted (length m) before i (stands m r) between) is a)
    (subst (λ (l : Labels). Noted (length m) between i (λ z. any_stands m z (types_of (members_of l v f))) after) (q ∙ ap (labels_for v m) is) b))

-- kind by kind
lower-or-last : (x i : ℕ) (f g : Bool) → (x ≡ i → g ≡ f) → ((ltb x i && f) || (eqb x i && g)) ≡ (ltb x (i + 1) && f)
lower-or-last x i f g h =
    by-test (eqb x i)
    (λ t.
    let q = eqb-true x i t in
    rw (t, le-ltb x i (omega (arith, q)), lt-ltb x (i + 1) (omega (arith, q))) (h q))
    (λ t.
    by-test (ltb x i)
    (λ u. rw (t, u, lt-ltb x (i + 1) (omega (arith, ltb-true x i u))) (or-false f))
    (λ u. rw (t, u, le-ltb x (i + 1) (omega (arith, ltb-false x i u, eqb-false x i t)))))

module _ (v : List ℕ) (m : List Kind) where
  pub filled_none : RowsFilled v m 0 (replicate kinds_limit 0)
  filled_none = record { cells = λ x z k. none-cell x z ∙ rw (le-ltb x 0 (omega arith)) }

  pub filled_more : (i : ℕ) (before after : List ℕ) → RowsFilled v m i before → Noted (length m) before i (steps v m i) after
      → RowsFilled v m (i + 1) after
  filled_more i before after r d =
      record {
        cells = λ x z k.
            d.cells x z k ∙ ap (λ (b : Bool). b || (eqb x i && steps v m i z)) (r.cells x z k)
            ∙ lower-or-last x i (steps v m x z) (steps v m i z) (λ q. ap (λ (y : ℕ). steps v m y z) (sym q));
      }

  pub filled-all : (i n : ℕ) (rows : List ℕ) → n ≡ length m → i ≤ n → n ≤ i → RowsFilled v m i rows → RowsFilled v m (length m) rows
  filled-all i n rows e l h r = let q : i ≡ n = omega arith in subst (λ (x : ℕ). RowsFilled v m x rows) (q ∙ e) r

  pub filled-found : (rows : List ℕ) → RowsFilled v m (length m) rows → loop_found (length m) (cell rows) ≡ loop_found (length m) (steps v m)
  filled-found rows r =
      found-same (length m) (cell rows) (steps v m) (λ i j a b. r.cells i j b ∙ rw (lt-ltb i (length m) a))
