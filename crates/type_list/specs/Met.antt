-- "A list of at most 64 kinds met, with place, start and byte order": the list, and what is found in it.
--   no_kind          what stands past the end of the list
--   kind_no          the kind at a position
--   find_kind        the position of the kind at a place, the length where none is there
--   position_of      the same, if one is there
--   parameters_of    the parameters of the kind at a position
--   at_position      the same, a fault where there is none
--   found_at         the parameters of the kind at a place
--   inside_of        the parameters of a type inside another: of a kind that is written there by its own octets, of an indirection's target by
--                   the list; where the list has none there, which no accepted type leads to, a fault
use Rattle.std.specs.Prelude.{◌∷◌, Option, Some, None}
use Rattle.choices.specs.{ℕ, suc, List, [], cond, ltb, eqb, length, get_or, choose}
use Rattle.cdr.specs.{Place, Big}
use Rattle.type_kinds.specs.{Kind, Inner, Here, There, place_of, written_at}
use Rattle.type_parameters.specs.{declared.Parameters.Parameters}
use Rattle.type_parameters.specs.{declared.Parameters.TheVariants.Fault, Parameters.parameters_at}

abbrev pub no_kind : Kind
no_kind = written_at (place_of 0) (place_of 0) Big

abbrev pub kind_no : List Kind → ℕ → Kind
kind_no ks j = get_or ks j no_kind

unfoldable pub find_kind : List Kind → Place → ℕ
find_kind [] p = 0
find_kind (a ∷ ks) p = choose (eqb a.place.0 p.0) (λ _. 0) (λ _. suc (find_kind ks p))

unfoldable pub position_of : List Kind → Place → Option ℕ
position_of ks p = cond (ltb (find_kind ks p) (length ks)) (Some (find_kind ks p)) None

unfoldable pub parameters_of : List ℕ → List Kind → ℕ → Parameters
parameters_of v ks j = parameters_at v (kind_no ks j)

abbrev pub at_position : List ℕ → List Kind → Option ℕ → Parameters
at_position v ks (Some j) = parameters_of v ks j
at_position v ks None = Fault

unfoldable pub found_at : List ℕ → List Kind → Place → Parameters
found_at v ks p = at_position v ks (position_of ks p)

unfoldable pub inside_of : List ℕ → List Kind → Inner → Parameters
inside_of v ks (Here a) = parameters_at v a
inside_of v ks (There p) = found_at v ks p
