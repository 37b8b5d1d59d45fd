-- Two of "the slips we have seen", by what is written in them, computed from the octets alone.
use mathlib.Core.Path.{◌≡◌, refl, sym, subst}
use mathlib.Core.List.{List, [], ◌∷◌}
use mathlib.Core.Bool.{true, false}
use Prim.Native.Nat.{ℕ}
use Rattle.cdr.specs.declared.Order.{Order}
use Rattle.cdr.specs.declared.Order.TheVariants.{Big, Little}
use Rattle.cdr.specs.declared.Size.TheVariants.{Four}
use Rattle.type_kinds.specs.declared.Kind.{Kind}
use Rattle.type_kinds.specs.declared.Inner.{Inner}
use Rattle.type_kinds.specs.declared.Inner.TheVariants.{Here, There}
use Rattle.type_kinds.specs.declared.Labels.TheVariants.{Of}
use Rattle.type_parameters.specs.declared.Parameters.TheVariants.{Union}
use Rattle.type_unions.specs.declared.Discriminant.TheVariants.{Says}
use Rattle.choices.specs.Branch.{choose}
use Rattle.choices.specs.Lists.{Among}
use Rattle.choices.specs.Lists.Among.{first, later}
use Rattle.cdr.specs.Align.{index_of}
use Rattle.cdr.specs.Number.{little_number, little_octets, number_of, octets_of, number_at, read_of}
use Rattle.cdr_text.specs.Text.{text_of, ends_text, over_bound, run_of}
use Rattle.cdr_fields.specs.Encapsulation.{field_of, string_of, counted_of}
use Rattle.type_kinds.specs.Forms.{form_of}
use Rattle.type_kinds.specs.Parts.{place_of, written_at, field_in, skip_field, skip_counted, target_of, aimed, spot_at, member_at, names_in}
use Rattle.type_kinds.specs.Members.{members_from, members_of, types_of}
use Rattle.type_parameters.specs.Parameters.{member_fields, count_in, type_in, element_in, union_in, encapsulated, parameters_at}
use Rattle.type_unions.specs.Discriminants.{leaf_labels, discriminant_of}
use Rattle.type_laws.specs.Written.{types_by, is_sequence, KindWritten, Inside}
use Rattle.type_laws.specs.Written.KindWritten.{top, inside}
use Rattle.type_laws.specs.Written.Inside.{typed, member}
use Rattle.type_laws.specs.Written.Tells.{itself, target}
use Rattle.type_laws.specs.Loops.{Loops}
use Rattle.type_laws.specs.Loops.Step01.{across}
use Rattle.type_laws.specs.Loops.Leads.{once, then}

abbrev at : ℕ → ℕ → Order → Kind
at p b order = written_at (place_of p) (place_of b) order

by-types : (v : List ℕ) (order : Order) (a : Kind) (xs : List Inner) (x : Inner) → types_by v (parameters_at v a) ≡ xs → Among x xs → Inside v order a x
by-types v order a xs x e y = typed (subst (Among x) (sym e) y)

-- "Struct A holds a sequence of struct B, B an indirection to A, A's second member one to B: 39"
abbrev loop : List ℕ
loop = octets_of Big 120 0x0000000F0000007000000000000000010000000000000001000000000000000200000001000000000000001300000038000000000000000F000000280000000000000001000000000000000100000000000000010000000100000000FFFFFFFFFFFFFFA0000000000000000100000000FFFFFFFFFFFFFFC0

in-a : types_by loop (parameters_at loop (at 0 0 Big)) ≡ Here (at 40 8 Big) ∷ There (place_of 52) ∷ []
unfolding little_number little_octets number_of octets_of number_at choose read_of field_of string_of text_of ends_text over_bound run_of counted_of form_of field_in skip_field skip_counted target_of aimed spot_at member_at names_in count_in type_in element_in union_in encapsulated parameters_at members_from types_of
in-a = refl

in-sequence : types_by loop (parameters_at loop (at 40 8 Big)) ≡ Here (at 52 48 Big) ∷ []
unfolding little_number little_octets number_of octets_of number_at choose read_of field_of string_of text_of ends_text over_bound run_of counted_of form_of field_in skip_field skip_counted target_of aimed spot_at member_at names_in count_in type_in element_in union_in encapsulated parameters_at members_from types_of
in-sequence = refl

in_b : types_by loop (parameters_at loop (at 52 48 Big)) ≡ There (place_of 0) ∷ []
unfolding little_number little_octets number_of octets_of number_at choose read_of field_of string_of text_of ends_text over_bound run_of counted_of form_of field_in skip_field skip_counted target_of aimed spot_at member_at names_in count_in type_in element_in union_in encapsulated parameters_at members_from types_of
in_b = refl

a-steps : is_sequence (parameters_at loop (at 0 0 Big)) ≡ false
unfolding little_number little_octets number_of octets_of number_at choose read_of field_of string_of text_of ends_text over_bound run_of counted_of form_of field_in skip_field skip_counted target_of aimed spot_at member_at names_in count_in type_in element_in union_in encapsulated parameters_at members_from types_of
a-steps = refl

b-steps : is_sequence (parameters_at loop (at 52 48 Big)) ≡ false
unfolding little_number little_octets number_of octets_of number_at choose read_of field_of string_of text_of ends_text over_bound run_of counted_of form_of field_in skip_field skip_counted target_of aimed spot_at member_at names_in count_in type_in element_in union_in encapsulated parameters_at members_from types_of
b-steps = refl

sequence-stays : is_sequence (parameters_at loop (at 40 8 Big)) ≡ true
unfolding little_number little_octets number_of octets_of number_at choose read_of field_of string_of text_of ends_text over_bound run_of counted_of form_of field_in skip_field skip_counted target_of aimed spot_at member_at names_in count_in type_in element_in union_in encapsulated parameters_at members_from types_of
sequence-stays = refl

-- from A by its second member to B, from B to A, by the definitions alone
pub loops-back : Loops loop Big
loops-back =
    let a : KindWritten loop Big (at 0 0 Big) = top in
    let s : KindWritten loop Big (at 40 8 Big) = inside a (by-types loop Big _ _ _ in-a first) in
    let b : KindWritten loop Big (at 52 48 Big) = inside s (by-types loop Big _ _ _ in-sequence first) in
    (at 0 0 Big, a, then (across a-steps (by-types loop Big _ _ _ in-a (later first)) b refl) (once (across b-steps (by-types loop Big _ _ _ in_b first) a refl)))

-- "Reading an indirection's target in the byte order of the pointer": a big-endian discriminant whose target is little-endian
abbrev turned : List ℕ
turned = octets_of Big 128 0x0000000F000000780000000000000001000000000000000100000000000000020000000100000000000000130000000C010000000300000000000000000000010000000000000010000000340000000000000001000000000000000100000000FFFFFFFFFFFFFFD0FFFFFFFF0000000100000007000000010000000000000003

in_top : types_by turned (parameters_at turned (at 0 0 Big)) ≡ Here (at 40 8 Big) ∷ Here (at 68 8 Big) ∷ []
unfolding little_number little_octets number_of octets_of number_at choose read_of field_of string_of text_of ends_text over_bound run_of counted_of form_of field_in skip_field skip_counted target_of aimed spot_at member_at names_in count_in type_in element_in union_in encapsulated parameters_at members_from types_of
in_top = refl

in-little : types_by turned (parameters_at turned (at 40 8 Big)) ≡ Here (at 52 48 Little) ∷ []
unfolding little_number little_octets number_of octets_of number_at choose read_of field_of string_of text_of ends_text over_bound run_of counted_of form_of field_in skip_field skip_counted target_of aimed spot_at member_at names_in count_in type_in element_in union_in encapsulated parameters_at members_from types_of
in-little = refl

in-union : parameters_at turned (at 68 8 Big) ≡ Union (member_fields (place_of 76) Big 1 (index_of 36)) (There (place_of 52)) 4294967295
unfolding little_number little_octets number_of octets_of number_at choose read_of field_of string_of text_of ends_text over_bound run_of counted_of form_of field_in skip_field skip_counted target_of aimed spot_at member_at names_in count_in type_in element_in union_in encapsulated parameters_at members_from types_of
in-union = refl

tells-four : discriminant_of (parameters_at turned (at 52 48 Little)) ≡ Says (Of Four 0)
unfolding little_number little_octets number_of octets_of number_at choose read_of field_of string_of text_of ends_text over_bound run_of counted_of form_of field_in skip_field skip_counted target_of aimed spot_at member_at names_in count_in type_in element_in union_in encapsulated parameters_at members_from types_of leaf_labels
tells-four = refl

in_members : types_of (members_of (Of Four 0) turned (member_fields (place_of 76) Big 1 (index_of 36))) ≡ Here (at 124 76 Big) ∷ []
unfolding little_number little_octets number_of octets_of number_at choose read_of field_of string_of text_of ends_text over_bound run_of counted_of form_of field_in skip_field skip_counted target_of aimed spot_at member_at names_in count_in type_in element_in union_in encapsulated parameters_at members_from types_of
in_members = refl

-- the union's member is written: its discriminant is an indirection, whose target tells labels of four octets in its own order
pub member-written : KindWritten turned Big (at 124 76 Big)
member-written =
    let a : KindWritten turned Big (at 0 0 Big) = top in
    let s : KindWritten turned Big (at 40 8 Big) = inside a (by-types turned Big _ _ _ in_top first) in
    let d : KindWritten turned Big (at 52 48 Little) = inside s (by-types turned Big _ _ _ in-little first) in
    let u : KindWritten turned Big (at 68 8 Big) = inside a (by-types turned Big _ _ _ in_top (later first)) in
    inside u (member in-union (target d refl (itself tells-four)) (subst (Among (Here (at 124 76 Big))) (sym in_members) first))
