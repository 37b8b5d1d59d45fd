-- The levels left fall at each entry, and within a level each reader calls only those after it.
use Rattle.std.proofs.Common.{◌+◌, ◌-◌, ◌*◌}
use Rattle.type_list.specs.Arrays.{kinds_met}
use Rattle.type_unions.specs.Shapes.{shape_of}
use Rattle.value_meaning.specs.Visit.{checked}
use Rattle.value_meaning.specs.Reading.{reads}
use Rattle.value_cursor.specs.Walk.{sink_of, source_of, state_of}
use Rattle.value_leaves.proofs.RepeatsLoop.{Going}
use Rattle.value_walk.proofs.MembersLoop.{Onward}
use Rattle.value_walk.proofs.+readers.Given as goal

abbrev pub decreases-visit : goal.decreases-visit
decreases-visit l = 4 * l.left

abbrev pub decreases-each : goal.decreases-each
decreases-each l = 4 * l.left + 1

abbrev pub decreases-struct_members : goal.decreases-struct_members
decreases-struct_members l = 4 * l.left + 1

abbrev pub decreases-union_member : goal.decreases-union_member
decreases-union_member l = 4 * l.left + 1

abbrev pub decreases-exception : goal.decreases-exception
decreases-exception l = 4 * l.left + 2

abbrev pub decreases-elements : goal.decreases-elements
decreases-elements l = 4 * l.left + 2

abbrev pub decreases-sequence : goal.decreases-sequence
decreases-sequence l = 4 * l.left + 3

-- as many members as the counter says are read, the next one stands at an index, and that is the state
abbrev pub invariant-struct_members-loop : goal.invariant-struct_members-loop
invariant-struct_members-loop l =
    let k = sink_of l.mode in
    let x = source_of l.mode l.value in
    let t = checked l.types (kinds_met l.met) in
    Onward k x (reads k x t l.left) t l.types l.start l.order l.count l.initial.at (state_of l.initial.d l.initial.table) l.counter l.at (state_of l.d l.table)

-- as many elements as the counter says are read, and that is the state
abbrev pub invariant-each-loop : goal.invariant-each-loop
invariant-each-loop l =
    let t = checked l.types (kinds_met l.met) in
    Going (reads (sink_of l.mode) (source_of l.mode l.value) t l.left (shape_of l.types (kinds_met l.met) l.e)) l.count l.counter
    (state_of l.initial.d l.initial.table) (state_of l.d l.table)
