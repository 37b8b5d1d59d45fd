-- "From a kind written at a place one steps to the kinds directly inside it, an indirection counting as its target; from a sequence
-- there is no step." Steps go from position to position in the list of kinds met, by what the kinds look like.
--   stands       the kind at a place has the position k, of those that the list has
--   any_stands    some of the types has the position k
--   steps_of      the types that one steps to: a struct's and an exception's members, a union's discriminant and members, an array's element,
--                an alias's type
--   leads        a shape leads to the kind at the position k
--   steps        one steps from the kind at i to the kind at j
use Rattle.std.specs.Prelude.{◌∷◌}
use Rattle.choices.specs.{ℕ, List, [], Bool, eqb, any_of}
use Rattle.cdr.specs.{Place}
use Rattle.type_kinds.specs.{Inner, Kind, place_in, types_of}
use Rattle.type_list.specs.{Met.find_kind, Met.parameters_of}
use Rattle.type_unions.specs.{Shape, fault, flat, struct, exception, union, sequence, array, alias}
use Rattle.type_unions.specs.{Shapes.shape_of}

abbrev pub stands : List Kind → Place → ℕ → Bool
stands ks p k = eqb (find_kind ks p) k

abbrev pub any_stands : List Kind → ℕ → List Inner → Bool
any_stands ks k xs = any_of (λ (x : Inner). stands ks (place_in x) k) xs

unfoldable pub steps_of : Shape → List Inner
steps_of fault = []
steps_of (flat i) = []
steps_of (struct xs) = xs
steps_of (exception xs) = xs
steps_of (union d ms default) = d ∷ types_of ms
steps_of (sequence x bound) = []
steps_of (array x n) = x ∷ []
steps_of (alias x) = x ∷ []

abbrev pub leads : List Kind → ℕ → Shape → Bool
leads ks k shape = any_stands ks k (steps_of shape)

unfoldable pub steps : List ℕ → List Kind → ℕ → ℕ → Bool
steps v ks i j = leads ks j (shape_of v ks (parameters_of v ks i))
