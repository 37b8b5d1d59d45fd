-- What a kind's parameters are, by its place, and the start and order of the encapsulation it stands in, over the octets v of the whole
-- TypeCode. From `count_in` to `encapsulated`, b is the start of the kind's own encapsulation.
--   member_fields            where members are listed: the encapsulation, their count, and the index of the first
--   count_in             the count after id and name
--   type_in              the type after id and name
--   element_in           the type and the number after it, of a sequence or an array
--   listed_fields            the members that are listed after id and name
--   on_element           what follows a type and a number
--   union_in             default and count after a union's discriminant
--   parameters_in        what an encapsulation of a layout holds: "objref: id, name. Alias: id, name, type." and so on
--   on_named             what follows an order octet
--   encapsulated        the same behind its order octet
--   parameters_after     what follows a kind that was read
--   parameters_at        the parameters of a kind that is written
use Rattle.std.specs.Prelude.{◌+◌, ◌-◌, Option, Some, None}
use Rattle.choices.specs.{ℕ, List, cond, ltb, length, get_or}
use Rattle.cdr.specs.{Index, Place, Order, Four, index_of, order_of}
use Rattle.type_kinds.specs.Names.{Form, Unlisted, Plain, Bounded, Composite, Layout, Kind, Inner}
use Rattle.type_kinds.specs.Names.{Fields, Leaf, Text, Objref, Enum}
use Rattle.type_kinds.specs.{Forms.form_of}
use Rattle.type_parameters.specs.{declared.Parameters.Parameters}
use Rattle.type_kinds.specs.declared.Layout.TheVariants.{Objref as objref, Struct as struct, Union as union, Enum as enum}
use Rattle.type_kinds.specs.declared.Layout.TheVariants.{Sequence as sequence, Array as array, Alias as alias, Exception as exception}
use Rattle.type_parameters.specs.declared.Parameters.TheVariants.{Fault, Flat, Struct, Exception, Union, Sequence, Array, Alias}
use Rattle.type_kinds.specs.Parts.{place_of, on_field, on_skip, on_spot, field_in, spot_at, names_in}

abbrev pub member_fields : Place → Order → ℕ → Index → Fields
member_fields b order n first = record { start = b; order = order; count = n; first = first }

unfoldable pub count_in : List ℕ → Place → Order → Option (ℕ × Index)
count_in v b order = on_skip (names_in v b order) None (λ i. field_in v b i Four order)

unfoldable pub type_in : List ℕ → Place → Order → Option (Inner × Index)
type_in v b order = on_skip (names_in v b order) None (λ i. spot_at v b i order)

unfoldable pub element_in : List ℕ → Place → Order → Option (Inner × ℕ)
element_in v b order =
    on_spot (spot_at v b (index_of 1) order) None (λ x i. on_field (field_in v b i Four order) None (λ n next. Some (x, n)))

unfoldable pub listed_fields : List ℕ → Place → Order → Option Fields
listed_fields v b order = on_field (count_in v b order) None (λ n next. Some (member_fields b order n next))

abbrev pub on_element : Option (Inner × ℕ) → (Inner → ℕ → Parameters) → Parameters
on_element (Some (x, n)) f = f x n
on_element None f = Fault

unfoldable pub union_in : List ℕ → Place → Order → Inner → Index → Parameters
union_in v b order d i =
    on_field (field_in v b i Four order) Fault (λ default j.
    on_field (field_in v b j Four order) Fault (λ n next. Union (member_fields b order n next) d default))

abbrev pub parameters_in : Layout → List ℕ → Place → Order → Parameters
parameters_in objref v b order = Flat Objref
parameters_in alias v b order = on_spot (type_in v b order) Fault (λ x next. Alias x)
parameters_in struct v b order = on_field (count_in v b order) Fault (λ n next. Struct (member_fields b order n next))
parameters_in exception v b order = on_field (count_in v b order) Fault (λ n next. Exception (member_fields b order n next))
parameters_in union v b order = on_spot (type_in v b order) Fault (λ d i. union_in v b order d i)
parameters_in enum v b order = on_field (count_in v b order) Fault (λ n next. Flat (Enum n))
parameters_in sequence v b order = on_element (element_in v b order) (λ x n. Sequence x n)
parameters_in array v b order = on_element (element_in v b order) (λ x n. Array x n)

abbrev pub on_named : Option Order → (Order → Parameters) → Parameters
on_named (Some order) f = f order
on_named None f = Fault

unfoldable pub encapsulated : Layout → List ℕ → Place → Parameters
encapsulated layout v b = cond (ltb b.0 (length v)) (on_named (order_of (get_or v b.0 0)) (λ order. parameters_in layout v b order)) Fault

abbrev pub parameters_after : Form → List ℕ → Place → Order → ℕ → Index → Parameters
parameters_after Unlisted v b order kind i = Fault
parameters_after Plain v b order kind i = Flat (Leaf kind)
parameters_after Bounded v b order kind i = on_field (field_in v b i Four order) Fault (λ bound next. Flat (Text bound))
parameters_after (Composite layout) v b order kind i =
    on_field (field_in v b i Four order) Fault (λ n next. encapsulated layout v (place_of (b.0 + next.0)))

unfoldable pub parameters_at : List ℕ → Kind → Parameters
parameters_at v a =
    on_field (field_in v a.start (index_of (a.place.0 - a.start.0)) Four a.order) Fault
    (λ kind next. parameters_after (form_of kind) v a.start a.order kind next)
