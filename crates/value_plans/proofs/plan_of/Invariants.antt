-- The plan of a struct, if it has one.
use lib.ListN.{replicate}
use Rattle.choices.proofs.Turns.{Left}
use Rattle.value_meaning.specs.Visit.{checked}
use Rattle.value_plans.specs.Plans.{most_members}
use Rattle.value_plans.proofs.PlanReadsStruct.{makes}
use Rattle.type_list.specs.Arrays.{kinds_met}
use Rattle.value_plans.proofs.plan_of.Given as goal

abbrev pub invariant-loop-k : goal.invariant-loop-k
invariant-loop-k l =
    Left (makes (checked l.types (kinds_met l.met)) l.types l.start l.order l.count) l.count (0, l.initial.at, replicate most_members 0) l.k (l.k, l.at, l.kinds)
