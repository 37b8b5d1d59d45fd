-- The members of a struct that has a plan.
use Rattle.value_cursor.specs.Walk.{sink_of, source_of, state_of}
use Rattle.value_plans.proofs.PlanReadsStruct.{Stepping}
use Rattle.value_plans.proofs.plan_members.Given as goal

abbrev pub invariant-loop-k : goal.invariant-loop-k
invariant-loop-k l = Stepping (sink_of l.mode) (source_of l.mode l.value) l.kinds l.count l.k (state_of l.initial.d l.initial.table) (state_of l.d l.table)
