-- The member that is chosen, turn by turn.
use Rattle.std.specs.Prelude.{Option, Some, None}
use mathlib.Core.Path.{◌≡◌}
use mathlib.Core.List.{List}
use mathlib.Core.Bool.{true, false}
use Prim.Native.Nat.{ℕ, suc, ◌+◌}
use Rattle.choices.specs.Branch.{choose}
use Rattle.cdr.specs.declared.Index.{Index}
use Rattle.cdr.specs.declared.Place.{Place}
use Rattle.cdr.specs.declared.Order.{Order}
use Rattle.type_kinds.specs.declared.Inner.{Inner}
use Rattle.type_kinds.specs.declared.Labels.{Labels}
use Rattle.type_kinds.specs.Parts.{member_at}
use Rattle.type_kinds.specs.Members.{label_at, members_from}
use Rattle.type_kinds.proofs.NextMember.{members-cut, members-more}
use Rattle.type_unions.specs.declared.Sought.{Sought}
use Rattle.type_unions.specs.Arms.{is_sought, first_sought}

module _ (sought : Sought) (labels : Labels) (v : List ℕ) (b : Place) (order : Order) where
  -- what m members from an index on give, the first of them of number s .0
  abbrev pub seeks : ℕ → ℕ × Index → Option Inner
  seeks m s = first_sought sought s.0 (members_from labels v b order m s.1)

  module _ (j : ℕ) (i : Index) where
    pub sought-cut : member_at labels v b i order ≡ None → (m : ℕ) → seeks (suc m) (j, i) ≡ None
    unfolding first_sought
    sought-cut e m = rw (members-cut labels v b order i e m)

    module _ (t : Inner) (next : Index) (e : member_at labels v b i order ≡ Some (t, next)) where
      pub sought-here : is_sought sought j (label_at labels v b i order) ≡ true → (m : ℕ) → seeks (suc m) (j, i) ≡ Some t
      unfolding first_sought choose
      sought-here h m = rw (members-more labels v b order i t next e m, h)

      pub sought-on : is_sought sought j (label_at labels v b i order) ≡ false → (m : ℕ) → seeks (suc m) (j, i) ≡ seeks m (j + 1, next)
      unfolding first_sought choose
      sought-on h m = rw (members-more labels v b order i t next e m, h)
