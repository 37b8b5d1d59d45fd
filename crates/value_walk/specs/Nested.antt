-- What a visit does, in the words of readers that call one another. f reads what is inside, one level down; t is the checked type.
--   reads_below     a visit of a shape with so many levels left, in a walk of a mode over a value of the type that octets and kinds give
--   reads_with      the same of what has these parameters
--   sequence_at     "sequence: count, then elements"
--   members_read    members of these types, in order
--   exception_at    "exception: a text id, then members"; "an exception's id none"
--   arm_at          the chosen member, if there is one
--   union_at        "union: discriminant, then the member"
use Rattle.std.specs.Prelude.{◌∷◌, Option, Some, None}
use Rattle.choices.specs.{ℕ, List, []}
use Rattle.type_kinds.specs.{Inner, Member, Kind}
use Rattle.type_parameters.specs.declared.Parameters.{Parameters}
use Rattle.type_unions.specs.{Shape, Shapes.shape_of, Arms.chosen_of}
use Rattle.value_meaning.specs.{Source, Sink, St, and_then, Sinks.repeats, Visit.Checked, Visit.checked, Visit.text_at, Visit.count_at, Reading.reads}
use Rattle.value_cursor.specs.{declared.Mode.Mode, Lent.Lent, Walk.sink_of, Walk.source_of}

abbrev pub reads_below : Mode → List ℕ → List ℕ → List Kind → ℕ → Shape → St Lent → St Lent
reads_below mode v t ks left shape s = reads (sink_of mode) (source_of mode v) (checked t ks) left shape s

abbrev pub reads_with : Mode → List ℕ → List ℕ → List Kind → ℕ → Parameters → St Lent → St Lent
reads_with mode v t ks left p s = reads_below mode v t ks left (shape_of t ks p) s

module _ {A : Type 0} (k : Sink A) (x : Source) (f : Shape → St A → St A) where
  unfoldable pub sequence_at : Shape → ℕ → St A → St A
  sequence_at e bound s = and_then (count_at k x bound s) (λ u. repeats (f e) u.last u)

  module _ (t : Checked) where
    unfoldable pub members_read : List Inner → St A → St A
    members_read [] s = s
    members_read (y ∷ ys) s = and_then (f (t.look y) s) (members_read ys)

    unfoldable pub exception_at : List Inner → St A → St A
    exception_at ys s = and_then (text_at k x 0 s) (members_read ys)

    abbrev pub arm_at : Option Inner → St A → St A
    arm_at (Some y) s = f (t.look y) s
    arm_at None s = s

    unfoldable pub union_at : Inner → List Member → ℕ → St A → St A
    union_at d ms default s = and_then (f (t.look d) s) (λ u. arm_at (chosen_of ms default u.last) u)
