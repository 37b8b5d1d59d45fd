-- What an accepted type's parameters are: read without a fault, and leading to kinds of the list alone.
--   Entry          a kind is in the list
--   Known          a type inside another is: a kind written there, or the place of an indirection's target
--   InertBelow     a kind that holds no other and may stand below the top: not null or void
--   NotTop         parameters that may stand below the top: not null, void or an exception
--   Fitting        a type that is known and may stand below the top
--   FieldsRead     all members of a struct, an exception or a union are read, and the type of each is such a type
--   Labelled       labels of a discriminant that 01 allows
--   InertSound     a kind that is listed; an enum with a name
--   Sound          parameters without a fault: all they lead to is known, no count or length is 0, a discriminant has labels, a default is
--                  none or that of a member
--   Good           the kind at a position has sound parameters, and below the top such as may stand there
use mathlib.Core.Path.{◌≡◌}
use Prim.Native.Nat.{ℕ, ◌<◌}
use mathlib.Core.List.{List}
use mathlib.Core.Bool.{false}
use lib.ListN.{length}
use Rattle.choices.specs.Lists.{All}
use Rattle.type_kinds.specs.declared.Inner.{Inner}
use Rattle.type_kinds.specs.declared.Inner.TheVariants.{Here, There}
use Rattle.type_kinds.specs.declared.Form.TheVariants.{Plain}
use Rattle.type_kinds.specs.declared.Labels.{Labels}
use Rattle.type_kinds.specs.declared.Labels.TheVariants.{Of, NoLabels}
use Rattle.type_kinds.specs.declared.Fields.{Fields}
use Rattle.type_kinds.specs.declared.Inert.{Inert}
use Rattle.type_kinds.specs.declared.Inert.TheVariants.{Leaf, Text, Objref, Enum}
use Rattle.type_parameters.specs.declared.Parameters.{Parameters}
use Rattle.type_parameters.specs.declared.Parameters.TheVariants.{Fault, Flat, Struct, Exception, Union, Sequence, Array, Alias}
use Rattle.type_kinds.specs.declared.Kind.{Kind}
use Rattle.type_kinds.specs.Forms.{form_of}
use Rattle.type_kinds.specs.Parts.{place_in}
use Rattle.type_kinds.specs.Members.{members_of, types_of}
use Rattle.type_list.specs.Met.{find_kind, kind_no, parameters_of, inside_of}
use Rattle.type_unions.specs.Discriminants.{labels_for}
use Rattle.type_fields.specs.Fields.{top_only, bad_default}

abbrev pub Entry : List Kind → Kind → Type 0
Entry m a = (j : ℕ) × (j < length m) × (kind_no m j ≡ a)

abbrev pub Known : List Kind → Inner → Type 0
Known m (Here a) = Entry m a
Known m (There p) = find_kind m p < length m

abbrev pub InertBelow : Inert → Type 0
InertBelow (Leaf kind) = top_only kind ≡ false
InertBelow (Text bound) = Unit {0}
InertBelow Objref = Unit {0}
InertBelow (Enum names) = Unit {0}

abbrev pub NotTop : Parameters → Type 0
NotTop Fault = Unit {0}
NotTop (Flat i) = InertBelow i
NotTop (Struct g) = Unit {0}
NotTop (Exception g) = ⊥
NotTop (Union g d default) = Unit {0}
NotTop (Sequence x bound) = Unit {0}
NotTop (Array x n) = Unit {0}
NotTop (Alias x) = Unit {0}

abbrev pub Fitting : List ℕ → List Kind → Inner → Type 0
Fitting v m x = Known m x × NotTop (inside_of v m x)

pub record FieldsRead (labels : Labels) (v : List ℕ) (m : List Kind) (g : Fields) : Type 0 where
  pub whole : length (members_of labels v g) ≡ g.count
  pub all : All (Fitting v m) (types_of (members_of labels v g))

abbrev pub Labelled : Labels → Type 0
Labelled (Of size limit) = Unit {0}
Labelled NoLabels = ⊥

abbrev pub InertSound : Inert → Type 0
InertSound (Leaf kind) = form_of kind ≡ Plain
InertSound (Text bound) = Unit {0}
InertSound Objref = Unit {0}
InertSound (Enum names) = 0 < names

abbrev pub Sound : List ℕ → List Kind → Parameters → Type 0
Sound v m Fault = ⊥
Sound v m (Flat i) = InertSound i
Sound v m (Struct g) = (0 < g.count) × FieldsRead NoLabels v m g
Sound v m (Exception g) = FieldsRead NoLabels v m g
Sound v m (Union g d default) =
    Fitting v m d × Labelled (labels_for v m (place_in d)) × (0 < g.count) × (bad_default default g.count ≡ false)
    × FieldsRead (labels_for v m (place_in d)) v m g
Sound v m (Sequence x bound) = Fitting v m x
Sound v m (Array x n) = (0 < n) × Fitting v m x
Sound v m (Alias x) = Fitting v m x

pub record Good (v : List ℕ) (m : List Kind) (j : ℕ) : Type 0 where
  pub sound : Sound v m (parameters_of v m j)
  pub below : 0 < j → NotTop (parameters_of v m j)
