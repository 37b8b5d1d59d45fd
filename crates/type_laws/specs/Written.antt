-- What is written in a TypeCode, over its octets v and its order alone. No list that a check keeps is named here.
--   top_kind          the kind of the whole TypeCode
--   types_by          "the kinds directly inside it", in octet order, by a kind's parameters; of a union its discriminant alone
--   is_sequence       parameters of a sequence
--   KindWritten      a kind is written in the TypeCode: the top, and what is written inside a kind that is
--   Inside           a type stands directly inside a kind: "discriminant type, default, count, then label, name and type for each" of a
--                    union, whose discriminant tells how long labels are
--   Tells            what a discriminant tells of labels, "after aliases and indirections"; a target is the kind written at its place
use Rattle.std.specs.Prelude.{◌≡◌, ◌∷◌}
use Rattle.choices.specs.{List, [], Bool, true, false, ℕ, Among}
use Rattle.cdr.specs.{Place, Order}
use Rattle.type_kinds.specs.{Kind, Inner, Here, There, Fields, Labels, NoLabels, place_of, written_at, members_of, types_of}
use Rattle.type_parameters.specs.{declared.Parameters.Parameters, Parameters.parameters_at}
use Rattle.type_parameters.specs.declared.Parameters.TheVariants.{Fault, Flat, Struct, Exception, Union, Sequence, Array, Alias}
use Rattle.type_unions.specs.Discriminants.{discriminant_of}
use Rattle.type_unions.specs.declared.Discriminant.TheVariants.{Through, Says}

abbrev pub top_kind : Order → Kind
top_kind order = written_at (place_of 0) (place_of 0) order

abbrev pub types_by : List ℕ → Parameters → List Inner
types_by v Fault = []
types_by v (Flat i) = []
types_by v (Struct g) = types_of (members_of NoLabels v g)
types_by v (Exception g) = types_of (members_of NoLabels v g)
types_by v (Union g d default) = d ∷ []
types_by v (Sequence x bound) = x ∷ []
types_by v (Array x n) = x ∷ []
types_by v (Alias x) = x ∷ []

abbrev pub is_sequence : Parameters → Bool
is_sequence Fault = false
is_sequence (Flat i) = false
is_sequence (Struct g) = false
is_sequence (Exception g) = false
is_sequence (Union g d default) = false
is_sequence (Sequence x bound) = true
is_sequence (Array x n) = false
is_sequence (Alias x) = false

mutual
  pub data KindWritten (v : List ℕ) (order : Order) : Kind → Type 0 where
    top : KindWritten v order (top_kind order)
    inside : {a b : Kind} → KindWritten v order a → Inside v order a (Here b) → KindWritten v order b

  pub data Inside (v : List ℕ) (order : Order) : Kind → Inner → Type 0 where
    typed : {a : Kind} {x : Inner} → Among x (types_by v (parameters_at v a)) → Inside v order a x
    member : {a : Kind} {x d : Inner} {g : Fields} {default : ℕ} {labels : Labels} → parameters_at v a ≡ Union g d default → Tells v order d labels
        → Among x (types_of (members_of labels v g)) → Inside v order a x

  pub data Tells (v : List ℕ) (order : Order) : Inner → Labels → Type 0 where
    itself : {a : Kind} {labels : Labels} → discriminant_of (parameters_at v a) ≡ Says labels → Tells v order (Here a) labels
    aliased : {a : Kind} {x : Inner} {labels : Labels} → discriminant_of (parameters_at v a) ≡ Through x → Tells v order x labels
        → Tells v order (Here a) labels
    target : {a : Kind} {labels : Labels} {p : Place} → KindWritten v order a → a.place ≡ p → Tells v order (Here a) labels → Tells v order (There p) labels
