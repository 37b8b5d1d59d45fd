-- What is asked of types, and the numbers that the definitions answer.
--   TypeQuestion          what is asked of types
--   layout_kind            the kind that has a layout
--   form_numbers           0 not listed; 1 nothing follows; 2 a bound; 3 an encapsulation, and the kind that has its layout
--   target_numbers         1 and a place, or 0 for none
--   inner_numbers          1, and place, start and order octet of a kind that is written there; or 0 and the place of an indirection's target
--   spot_numbers           1, the index after a type, and the type; or 0 where octets are missing
--   list_numbers           where members are listed: start, order octet, count, first index
--   inert_numbers          1 and the kind of a leaf; 18 and a string's bound; 14; 17 and the number of an enum's names
--   parameters_numbers     the same of these; else the kind and its parameters; 0 for a fault
--   position_numbers       1 and a position, or 0 for none
--   labels_numbers         1, the octets of a label and its limit; or 0 for none
--   arm_numbers            1 and the type of a member, or 0 for none
--   entry_number           the number of a refusal, or 0
--   step_numbers           the number of a refusal, or 0 and the index after what was checked
--   count_numbers          the number of a refusal, or 0, a count and the index after it
--   part_numbers           the number of a refusal, or 0, start, end and order octet of an encapsulation
--   switch_numbers         the number of a refusal, or 0, default, count and the index after them
--   type_answered          what the definitions answer
use Rattle.std.specs.Prelude.{◌∷◌, ◌++◌, Option, Some, None, Result, Ok, Err}
use Rattle.choices.specs.{ℕ, List, [], get_or}
use Rattle.choices.specs.Lists.{any_of}
use Rattle.cdr.specs.{Order, Size, index_of, octets}
use Rattle.cdr.specs.Orders.{order_octet}
use Rattle.type_kinds.specs.{Form, Unlisted, Plain, Bounded, Composite, Layout, Inert, Leaf, Text, Objref, Enum, Inner, Here, There, Kind, Fields}
use Rattle.type_kinds.specs.{Labels, Of, NoLabels, Member, place_of}
use Rattle.type_kinds.specs.declared.Layout.TheVariants.{Objref as objref, Struct as struct, Union as union, Enum as enum}
use Rattle.type_kinds.specs.declared.Layout.TheVariants.{Sequence as sequence, Array as array, Alias as alias, Exception as exception}
use Rattle.type_parameters.specs.declared.Parameters.{Parameters}
use Rattle.type_parameters.specs.declared.Parameters.TheVariants.{Fault, Flat, Struct, Exception, Union, Sequence, Array, Alias}
use Rattle.type_kinds.specs.Forms.{form_of}
use Rattle.type_kinds.specs.Parts.{field_in, skip_field, skip_counted, target_of, aimed, spot_at, member_at, names_in}
use Rattle.type_kinds.specs.Members.{members_from, types_of}
use Rattle.type_parameters.specs.Parameters.{count_in, type_in, element_in, union_in, encapsulated, parameters_at}
use Rattle.type_list.specs.declared.Met.{Met}
use Rattle.type_list.specs.Met.{find_kind, position_of, parameters_of, found_at, inside_of}
use Rattle.type_list.specs.Arrays.{kinds_from, kinds_met, added}
use Rattle.type_unions.specs.Discriminants.{leaf_labels, labels_after, labels_for, out_of_kind}
use Rattle.type_unions.specs.Arms.{first_sought, case_of, member_no, no_default, default_of, chosen_of}
use Rattle.type_unions.specs.Shapes.{shape_of, look}
use Rattle.type_counts.specs.Refusals.{type_refusal_number}
use Rattle.type_counts.specs.Counts.{text_step, names_step, number_step, count_step, any_count, head_step, exception_step, length_step, texts_step, enum_step}
use Rattle.type_counts.specs.Counts.{part_of}
use Rattle.type_fields.specs.Fields.{below_top, kind_entry, bad_default, switch_step, label_before, label_step}
use Rattle.type_walk.specs.Walk.{entered, closed_at}
use Rattle.type_walk.specs.Types.{target_step, indirection_at, name_step, members_at, labels_at, switched_at, discriminant_at, ended_at}
use Rattle.type_walk.specs.Types.{composite_at, entered_at, type_with, enter_at, type_at, walked_of}
use Rattle.type_loops.specs.Loops.{closure, any_below, loop_found}
use Rattle.type_steps.specs.Steps.{steps_of, steps}
use Rattle.typecode.specs.TypeCode.{type_answer_numbers, loop_last, checked_type}
use Rattle.samples.specs.Tables.{bit}
use Rattle.samples.specs.Numbers.{field_numbers, number_answered}
use Rattle.cdr.specs.declared.Index.{Index}
use Rattle.cdr.specs.declared.Place.{Place}
use Rattle.type_counts.specs.declared.Refusal.{Refusal}

-- `type_code`: a byte order and the octets of a TypeCode; the number, then octets used and kinds written
-- by the octets of a whole TypeCode, the place where an encapsulation starts, an index in it and its order:
--   `field_there`: a number of a size; `type_there`: a type; `member_there`: a member with labels
-- `form_of_kind`: what follows a kind
-- `target_from`: an offset's place and the offset; the place of its target
-- `parameters`: octets and a kind that is written in them; its parameters
-- `noted`: the struct of the kinds met, and a position; the struct's count, and place, start and order octet that it has there
-- `position`: the kinds met, and a place; the position of the kind at it
-- `parameters_no`: octets, the kinds met in them and a position; the parameters of the kind there
-- `inside`: octets, the kinds met in them and a type inside another; its parameters
-- `labels_of`: octets, the kinds met in them and a discriminant's place; its labels
-- `over_limit`: a limit and a label; whether it is out of its kind
-- `case_with`: members and a label; the member that has it
-- `chosen`: members, a default and a discriminant; the member that is chosen
-- `entry`: a kind's form, the kind, the levels left and the kinds met; whether it may stand there
-- by an encapsulation's own octets, an index and an order, each checked:
--   `text`, `bound`, `count`, `array_length`, `encapsulation`; `union_switch`: default and count of a union
-- by an encapsulation's own octets and its order: `names`; `struct_head` and `exception_head`: names and count; `enum_body`
-- `label`: labels, the octets of a whole TypeCode, of its encapsulation, the encapsulation's place and order, how many members stand before it,
--   the index of the first one and its own; the label checked
-- `earlier`: labels, the octets, place and order, how many members stand before a label, and it; whether one of them has it
pub data TypeQuestion : Type 0 where
  type_code : Order → List ℕ → TypeQuestion
  field_there : List ℕ → (start index : ℕ) → Order → Size → TypeQuestion
  type_there : List ℕ → (start index : ℕ) → Order → TypeQuestion
  member_there : List ℕ → (start index : ℕ) → Order → Labels → TypeQuestion
  form_of_kind : ℕ → TypeQuestion
  target_from : (place offset : ℕ) → TypeQuestion
  parameters : List ℕ → Kind → TypeQuestion
  noted : Met → ℕ → TypeQuestion
  position : List Kind → ℕ → TypeQuestion
  parameters_no : List ℕ → List Kind → ℕ → TypeQuestion
  inside : List ℕ → List Kind → Inner → TypeQuestion
  labels_of : List ℕ → List Kind → ℕ → TypeQuestion
  over_limit : (limit label : ℕ) → TypeQuestion
  case_with : List Member → ℕ → TypeQuestion
  chosen : List Member → (default label : ℕ) → TypeQuestion
  entry : Form → (kind left count : ℕ) → TypeQuestion
  text : List ℕ → ℕ → Order → TypeQuestion
  bound : List ℕ → ℕ → Order → TypeQuestion
  count : List ℕ → ℕ → Order → TypeQuestion
  array_length : List ℕ → ℕ → Order → TypeQuestion
  encapsulation : List ℕ → ℕ → Order → TypeQuestion
  union_switch : List ℕ → ℕ → Order → TypeQuestion
  names : List ℕ → Order → TypeQuestion
  struct_head : List ℕ → Order → TypeQuestion
  exception_head : List ℕ → Order → TypeQuestion
  enum_body : List ℕ → Order → TypeQuestion
  label : Labels → (whole own : List ℕ) → (start : ℕ) → Order → (before first index : ℕ) → TypeQuestion
  earlier : Labels → List ℕ → (start : ℕ) → Order → (before first label : ℕ) → TypeQuestion

abbrev pub layout_kind : Layout → ℕ
layout_kind objref = 14
layout_kind struct = 15
layout_kind union = 16
layout_kind enum = 17
layout_kind sequence = 19
layout_kind array = 20
layout_kind alias = 21
layout_kind exception = 22

abbrev pub form_numbers : Form → List ℕ
form_numbers Unlisted = 0 ∷ []
form_numbers Plain = 1 ∷ []
form_numbers Bounded = 2 ∷ []
form_numbers (Composite layout) = 3 ∷ layout_kind layout ∷ []

abbrev pub target_numbers : Option Place → List ℕ
target_numbers (Some place) = 1 ∷ place.0 ∷ []
target_numbers None = 0 ∷ []

abbrev pub inner_numbers : Inner → List ℕ
inner_numbers (Here kind) = 1 ∷ kind.place.0 ∷ kind.start.0 ∷ order_octet kind.order ∷ []
inner_numbers (There place) = 0 ∷ place.0 ∷ []

abbrev pub spot_numbers : Option (Inner × Index) → List ℕ
spot_numbers (Some (x, next)) = 1 ∷ next.0 ∷ inner_numbers x
spot_numbers None = 0 ∷ []

abbrev pub list_numbers : Fields → List ℕ
list_numbers g = g.start.0 ∷ order_octet g.order ∷ g.count ∷ g.first.0 ∷ []

abbrev pub inert_numbers : Inert → List ℕ
inert_numbers (Leaf kind) = 1 ∷ kind ∷ []
inert_numbers (Text most) = 18 ∷ most ∷ []
inert_numbers Objref = 14 ∷ []
inert_numbers (Enum n) = 17 ∷ n ∷ []

abbrev pub parameters_numbers : Parameters → List ℕ
parameters_numbers Fault = 0 ∷ []
parameters_numbers (Flat i) = inert_numbers i
parameters_numbers (Struct g) = 15 ∷ list_numbers g
parameters_numbers (Exception g) = 22 ∷ list_numbers g
parameters_numbers (Union g d default) = 16 ∷ (list_numbers g ++ (default ∷ inner_numbers d))
parameters_numbers (Sequence x most) = 19 ∷ most ∷ inner_numbers x
parameters_numbers (Array x n) = 20 ∷ n ∷ inner_numbers x
parameters_numbers (Alias x) = 21 ∷ inner_numbers x

abbrev pub position_numbers : Option ℕ → List ℕ
position_numbers (Some j) = 1 ∷ j ∷ []
position_numbers None = 0 ∷ []

abbrev pub labels_numbers : Labels → List ℕ
labels_numbers (Of size limit) = 1 ∷ octets size ∷ limit ∷ []
labels_numbers NoLabels = 0 ∷ []

abbrev pub arm_numbers : Option Inner → List ℕ
arm_numbers (Some x) = 1 ∷ inner_numbers x
arm_numbers None = 0 ∷ []

abbrev pub entry_number : Result Unit Refusal → ℕ
entry_number (Err r) = type_refusal_number r
entry_number (Ok tt) = 0

abbrev pub step_numbers : Result Index Refusal → List ℕ
step_numbers (Err r) = type_refusal_number r ∷ []
step_numbers (Ok i) = 0 ∷ i.0 ∷ []

abbrev pub count_numbers : Result (ℕ × Index) Refusal → List ℕ
count_numbers (Err r) = type_refusal_number r ∷ []
count_numbers (Ok (n, next)) = 0 ∷ n ∷ next.0 ∷ []

abbrev pub part_numbers : Result (ℕ × ℕ × Order) Refusal → List ℕ
part_numbers (Err r) = type_refusal_number r ∷ []
part_numbers (Ok (from, end, order)) = 0 ∷ from ∷ end ∷ order_octet order ∷ []

abbrev pub switch_numbers : Result (ℕ × ℕ × Index) Refusal → List ℕ
switch_numbers (Err r) = type_refusal_number r ∷ []
switch_numbers (Ok (default, n, next)) = 0 ∷ default ∷ n ∷ next.0 ∷ []

unfoldable pub type_answered : TypeQuestion → List ℕ
unfolding number_answered any_of form_of field_in skip_field skip_counted target_of aimed spot_at member_at names_in members_from types_of
    count_in type_in element_in union_in encapsulated parameters_at
    find_kind position_of parameters_of found_at inside_of kinds_from kinds_met added
    leaf_labels labels_after labels_for out_of_kind first_sought member_no default_of chosen_of shape_of look
    below_top kind_entry text_step names_step number_step count_step any_count head_step exception_step length_step texts_step enum_step part_of
    bad_default switch_step label_before
    entered closed_at target_step indirection_at name_step members_at labels_at switched_at discriminant_at ended_at composite_at entered_at
    type_with enter_at type_at walked_of closure any_below loop_found steps_of steps loop_last checked_type
type_answered (type_code order v) = type_answer_numbers (checked_type v order).answer
type_answered (field_there v b i order size) = field_numbers (field_in v (place_of b) (index_of i) size order)
type_answered (type_there v b i order) = spot_numbers (spot_at v (place_of b) (index_of i) order)
type_answered (member_there v b i order labels) = spot_numbers (member_at labels v (place_of b) (index_of i) order)
type_answered (form_of_kind kind) = form_numbers (form_of kind)
type_answered (target_from p x) = target_numbers (target_of (place_of p) x)
type_answered (parameters v kind) = parameters_numbers (parameters_at v kind)
type_answered (noted m j) = m.count ∷ get_or m.places j 0 ∷ get_or m.starts j 0 ∷ get_or m.orders j 0 ∷ []
type_answered (position ks p) = position_numbers (position_of ks (place_of p))
type_answered (parameters_no v ks j) = parameters_numbers (parameters_of v ks j)
type_answered (inside v ks x) = parameters_numbers (inside_of v ks x)
type_answered (labels_of v ks p) = labels_numbers (labels_for v ks (place_of p))
type_answered (over_limit limit x) = bit (out_of_kind limit x) ∷ []
type_answered (case_with ms x) = arm_numbers (case_of no_default x ms)
type_answered (chosen ms default x) = arm_numbers (chosen_of ms default x)
type_answered (entry form kind left n) = entry_number (kind_entry form kind left n) ∷ []
type_answered (text v i order) = step_numbers (text_step v (index_of i) order)
type_answered (bound v i order) = step_numbers (number_step v (index_of i) order)
type_answered (count v i order) = count_numbers (count_step v (index_of i) order)
type_answered (array_length v i order) = step_numbers (length_step v (index_of i) order)
type_answered (encapsulation v i order) = part_numbers (part_of v (index_of i) order)
type_answered (union_switch v i order) = switch_numbers (switch_step v (index_of i) order)
type_answered (names v order) = step_numbers (names_step v order)
type_answered (struct_head v order) = count_numbers (head_step v order)
type_answered (exception_head v order) = count_numbers (exception_step v order)
type_answered (enum_body v order) = step_numbers (enum_step v order)
type_answered (label labels v s b order n first i) =
    step_numbers (label_step labels v s (place_of b) order no_default n (index_of first) (index_of i))
type_answered (earlier labels v b order n first x) = bit (label_before labels v (place_of b) order no_default n (index_of first) x) ∷ []
