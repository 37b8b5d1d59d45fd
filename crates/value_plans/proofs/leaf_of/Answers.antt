-- The kind of a member that has no parameters.
use borrow.Enum.Refused.{opened}
use Rattle.type_unions.specs.Shapes.{shape_of}
use Rattle.value_plans.specs.Plans.{leaf_kind}
use Rattle.value_plans.proofs.PlanReadsStruct.{other_none}
use Rattle.value_plans.proofs.leaf_of.Goals as goal

pub returns-in-Flat : goal.returns-in-Flat
unfolding shape_of leaf_kind
returns-in-Flat c = λ v met. rw c.in-Flat.is c.inert_kind.ensures

pub returns-in_default : goal.returns-in_default
returns-in_default c = other_none c.args.e (opened c.in_default.in_default-own.keys2)
