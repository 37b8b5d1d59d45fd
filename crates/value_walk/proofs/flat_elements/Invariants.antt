-- Visit by visit.
use Rattle.type_unions.specs.Shapes.Shape.{flat}
use Rattle.value_meaning.specs.Visit.{Checked}
use Rattle.value_meaning.specs.Reading.{reads}
use Rattle.value_cursor.specs.Walk.{sink_of, source_of, state_of}
use Rattle.value_leaves.proofs.RepeatsLoop.{Going}
use Rattle.value_walk.proofs.flat_elements.Given as goal

abbrev pub invariant-loop : goal.invariant-loop
invariant-loop l =
    (t : Checked) → Going (reads (sink_of l.mode) (source_of l.mode l.value) t l.left (flat l.inert)) l.count l.counter (state_of l.initial.d l.initial.table) (state_of l.d l.table)
