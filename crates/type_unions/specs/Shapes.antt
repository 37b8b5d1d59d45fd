-- What a type looks like, without octets and without a list: of each kind what a value of it holds, and which types stand directly inside.
--   Shape       fault        no kind's parameters, which an accepted type has nowhere
--               flat         a kind that holds no other
--               struct, exception   the types of its members, in order
--               union        its discriminant, its members with their labels, and its default
--               sequence, array, alias   its type; a bound, a length
--   shape_of     the shape of parameters
--   look        what a type inside another looks like
use Rattle.choices.specs.{ℕ, List}
use Rattle.type_kinds.specs.{Kind, Inner, Inert, NoLabels, place_in, Member, members_of, types_of}
use Rattle.type_parameters.specs.{declared.Parameters.Parameters}
use Rattle.type_parameters.specs.declared.Parameters.TheVariants.{Fault, Flat, Struct, Exception, Union, Sequence, Array, Alias}
use Rattle.type_list.specs.{Met.inside_of}
use Rattle.type_unions.specs.{Discriminants.labels_for}

pub data Shape : Type 0 where
  fault : Shape
  flat : Inert → Shape
  struct : List Inner → Shape
  exception : List Inner → Shape
  union : Inner → List Member → ℕ → Shape
  sequence : Inner → ℕ → Shape
  array : Inner → ℕ → Shape
  alias : Inner → Shape

unfoldable pub shape_of : List ℕ → List Kind → Parameters → Shape
shape_of v ks Fault = fault
shape_of v ks (Flat i) = flat i
shape_of v ks (Struct g) = struct (types_of (members_of NoLabels v g))
shape_of v ks (Exception g) = exception (types_of (members_of NoLabels v g))
shape_of v ks (Union g d default) = union d (members_of (labels_for v ks (place_in d)) v g) default
shape_of v ks (Sequence x bound) = sequence x bound
shape_of v ks (Array x n) = array x n
shape_of v ks (Alias x) = alias x

unfoldable pub look : List ℕ → List Kind → Inner → Shape
look v ks x = shape_of v ks (inside_of v ks x)
