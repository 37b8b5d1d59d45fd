-- So many structs that have a plan.
use Rattle.value_cursor.specs.Walk.{state_of}
use Rattle.value_leaves.proofs.RepeatsLoop.{Going}
use Rattle.value_plans.specs.Plans.{plan_visit}
use Rattle.value_plans.proofs.structs.Given as goal

abbrev pub invariant-loop : goal.invariant-loop
invariant-loop l = Going (plan_visit l.mode l.value l.plan) l.count l.counter (state_of l.initial.d l.initial.table) (state_of l.d l.table)
