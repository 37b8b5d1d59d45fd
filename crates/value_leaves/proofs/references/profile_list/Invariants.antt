-- So many profiles.
use Rattle.value_meaning.specs.Visit.{profile_at}
use Rattle.value_cursor.specs.Walk.{sink_of, source_of, state_of}
use Rattle.value_leaves.proofs.RepeatsLoop.{Going}
use Rattle.value_leaves.proofs.references.profile_list.Given as goal

abbrev pub invariant-loop : goal.invariant-loop
invariant-loop l = Going (profile_at (sink_of l.mode) (source_of l.mode l.value)) l.count l.counter (state_of l.initial.d l.initial.table) (state_of l.d l.table)
