-- "Discriminant .. after aliases and indirections": what a place is resolved to, however many aliases there are on the way.
--   Resolves    a kind of the list that says labels by its own parameters, or an alias of a type that does
use mathlib.Core.Path.{◌≡◌}
use Prim.Native.Nat.{ℕ, ◌<◌}
use lib.ListN.{length}
use mathlib.Core.List.{List}
use Rattle.cdr.specs.declared.Place.{Place}
use Rattle.type_kinds.specs.declared.Inner.{Inner}
use Rattle.type_kinds.specs.declared.Labels.{Labels}
use Rattle.type_kinds.specs.declared.Kind.{Kind}
use Rattle.type_unions.specs.declared.Discriminant.TheVariants.{Through, Says}
use Rattle.type_kinds.specs.Parts.{place_in}
use Rattle.type_list.specs.Met.{find_kind, parameters_of}
use Rattle.type_unions.specs.Discriminants.{discriminant_of}

pub data Resolves (v : List ℕ) (m : List Kind) (labels : Labels) : Place → Type 0 where
  says : {p : Place} → find_kind m p < length m → discriminant_of (parameters_of v m (find_kind m p)) ≡ Says labels → Resolves v m labels p
  through : {p : Place} (x : Inner) → find_kind m p < length m → discriminant_of (parameters_of v m (find_kind m p)) ≡ Through x
      → Resolves v m labels (place_in x) → Resolves v m labels p
