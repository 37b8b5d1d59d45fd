-- A loop over the members of a struct: what is left of it gives the same answer.
use Rattle.std.specs.Prelude.{Some, None}
use mathlib.Core.Path.{◌≡◌, refl, sym, ◌∙◌}
use mathlib.Core.List.{List}
use Prim.Native.Nat.{ℕ, suc, ◌+◌, ◌≤◌, ◌<◌}
use Rattle.choices.proofs.Turns.{Left, left-none, left_here, left-more, left_end}
use Rattle.cdr.specs.declared.Index.{Index}
use Rattle.cdr.specs.declared.Place.{Place}
use Rattle.cdr.specs.declared.Order.{Order}
use Rattle.type_kinds.specs.declared.Inner.{Inner}
use Rattle.type_kinds.specs.declared.Labels.TheVariants.{NoLabels}
use Rattle.type_kinds.specs.Parts.{member_at}
use Rattle.type_kinds.specs.Members.{members_from, types_of}
use Rattle.type_kinds.proofs.NextMember.{members-cut, members-more}
use Rattle.type_unions.specs.Shapes.{Shape}
use Rattle.value_meaning.specs.Sinks.{Source, Sink, St, and_then}
use Rattle.value_meaning.specs.Visit.{Checked}
use Rattle.value_meaning.proofs.ReadingCases.{goes_on, stops}
use Rattle.value_cursor.specs.Lent.{Lent}
use Rattle.value_leaves.proofs.RepeatsLoop.{rows}
use Rattle.value_walk.specs.Nested.{members_read}

module _ (k : Sink Lent) (x : Source) (f : Shape → St Lent → St Lent) (t : Checked) (v : List ℕ) (b : Place) (order : Order) where
  -- what m members from an index on give
  abbrev reading : ℕ → Index × St Lent → St Lent
  reading m s = members_read k x f t (types_of (members_from NoLabels v b order m s.0)) s.1

  -- j of n members are read from s₀ on, the next one stands at i, and s is the state
  pub record Onward (n : ℕ) (first : Index) (s₀ : St Lent) (j : ℕ) (i : Index) (s : St Lent) : Type 0 where
    pub same : rows s ≡ rows s₀
    pub left : Left reading n (first, s₀) j (i, s)

  members-end : (i : Index) (s : St Lent) → reading 0 (i, s) ≡ s
  unfolding members_from types_of members_read
  members-end i s = refl

  members-none : (i : Index) (s : St Lent) → member_at NoLabels v b i order ≡ None → (m : ℕ) → reading (suc m) (i, s) ≡ s
  unfolding types_of members_read
  members-none i s e m = rw (members-cut NoLabels v b order i e m)

  members-one : (i : Index) (s : St Lent) (y : Inner) (next : Index) → member_at NoLabels v b i order ≡ Some (y, next) → (m : ℕ)
      → reading (suc m) (i, s) ≡ and_then (f (t.look y) s) (λ u. reading m (next, u))
  unfolding types_of members_read
  members-one i s y next e m = rw (members-more NoLabels v b order i y next e m)

  module _ {n : ℕ} {first : Index} {s₀ : St Lent} where
    pub onward-none : Onward n first s₀ 0 first s₀
    onward-none = record { same = refl; left = left-none reading n (first, s₀) }

    module _ {j : ℕ} {i : Index} {s : St Lent} (on : Onward n first s₀ j i s) where
      pub onward-all : n ≤ j → s ≡ reading n (first, s₀)
      onward-all h = sym (members-end i s) ∙ left_end reading n (first, s₀) on.left h

      pub onward-cut : j < n → member_at NoLabels v b i order ≡ None → s ≡ reading n (first, s₀)
      onward-cut h e = left_here reading n (first, s₀) on.left h s (members-none i s e)

      module _ {r : St Lent} (y : Inner) (next : Index) (more : j < n) (at : member_at NoLabels v b i order ≡ Some (y, next))
          (step : r ≡ f (t.look y) s) where
        pub onward-stop : (r.fault ≡ 0 → ⊥) → r ≡ reading n (first, s₀)
        onward-stop z =
            left_here reading n (first, s₀) on.left more r
            (λ m. members-one i s y next at m ∙ stops (λ u. reading m (next, u)) (f (t.look y) s) r step z)

        pub onward-more : rows r ≡ rows s → r.fault ≡ 0 → Onward n first s₀ (j + 1) next r
        onward-more e z =
            record {
              same = e ∙ on.same;
              left = left-more reading n (first, s₀) on.left more (next, r)
                  (λ m. members-one i s y next at m ∙ goes_on (λ u. reading m (next, u)) (f (t.look y) s) r step z);
            }
