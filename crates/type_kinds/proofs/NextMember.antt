-- Members one after the other.
use Rattle.std.specs.Prelude.{Some, None}
use mathlib.Core.Path.{◌≡◌, refl}
use mathlib.Core.List.{List, [], ◌∷◌}
use Prim.Native.Nat.{ℕ, suc}
use Rattle.cdr.specs.declared.Index.{Index}
use Rattle.cdr.specs.declared.Place.{Place}
use Rattle.cdr.specs.declared.Order.{Order}
use Rattle.type_kinds.specs.declared.Inner.{Inner}
use Rattle.type_kinds.specs.declared.Labels.{Labels}
use Rattle.type_kinds.specs.Parts.{member_at}
use Rattle.type_kinds.specs.Members.{member, label_at, members_from}

module _ (labels : Labels) (v : List ℕ) (b : Place) (order : Order) (i : Index) where
  pub members-cut : member_at labels v b i order ≡ None → (n : ℕ) → members_from labels v b order (suc n) i ≡ []
  unfolding members_from
  members-cut e n = rw e

  pub members-more : (t : Inner) (next : Index) → member_at labels v b i order ≡ Some (t, next)
      → (n : ℕ) → members_from labels v b order (suc n) i ≡ member (label_at labels v b i order) t ∷ members_from labels v b order n next
  unfolding members_from
  members-more t next e n = rw e

  pub members-none : members_from labels v b order 0 i ≡ []
  unfolding members_from
  members-none = refl
