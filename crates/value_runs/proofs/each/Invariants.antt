-- So many visits of a kind without parameters.
use Rattle.value_cursor.specs.Walk.{state_of, leaf_visit}
use Rattle.value_leaves.proofs.RepeatsLoop.{Going}
use Rattle.value_runs.proofs.each.Given as goal

abbrev pub invariant-loop : goal.invariant-loop
invariant-loop l = Going (leaf_visit l.mode l.value l.kind) l.count l.counter (state_of l.initial.d l.initial.table) (state_of l.d l.table)
