-- The labels that a discriminant says, one alias after the other.
use mathlib.Core.Path.{◌≡◌}
use mathlib.Core.List.{List}
use Prim.Native.Nat.{ℕ, suc}
use Rattle.cdr.specs.declared.Place.{Place}
use Rattle.type_kinds.specs.declared.Kind.{Kind}
use Rattle.type_kinds.specs.declared.Inner.{Inner}
use Rattle.type_kinds.specs.declared.Labels.{Labels}
use Rattle.type_kinds.specs.Parts.{place_in}
use Rattle.type_unions.specs.declared.Discriminant.TheVariants.{Through, Says}
use Rattle.type_list.specs.Met.{found_at}
use Rattle.type_unions.specs.Discriminants.{discriminant_of, labels_after}

module _ (v : List ℕ) (ks : List Kind) (p : Place) where
  pub labels-said : (labels : Labels) → discriminant_of (found_at v ks p) ≡ Says labels → (m : ℕ) → labels_after v ks (suc m) p ≡ labels
  unfolding labels_after
  labels-said labels e m = rw e

  pub labels-through : (x : Inner) → discriminant_of (found_at v ks p) ≡ Through x
      → (m : ℕ) → labels_after v ks (suc m) p ≡ labels_after v ks m (place_in x)
  unfolding labels_after
  labels-through x e m = rw e
