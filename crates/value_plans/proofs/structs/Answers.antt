use mathlib.Core.Path.{ap, ◌∙◌}
use native.Mathlib.Omega.{arith}
use Prim.Native.Nat.{◌-◌}
use Rattle.value_cursor.specs.Walk.{sink_of, source_of}
use Rattle.value_leaves.proofs.RepeatsLoop.{going-all, going-stop, going_more}
use Rattle.value_plans.specs.Plans.{plan_steps}
use Rattle.value_plans.proofs.structs.Goals as goal

pub returns-then-d-ne0 : goal.returns-then-d-ne0
returns-then-d-ne0 c =
    going-stop c.loop.invariant (omega arith)
    (c.plan_members-d.ensures
    ∙ ap (plan_steps (sink_of c.args.mode) (source_of c.args.mode c.args.value.now) c.args.plan.kinds 0 c.args.plan.count)
    (c.visit.ensures c.args.mode c.loop.table))
    c.if-d-ne0.true

pub loop-preserved : goal.loop-preserved
loop-preserved c =
    going_more c.loop.invariant (omega arith)
    (c.plan_members-d.ensures
    ∙ ap (plan_steps (sink_of c.args.mode) (source_of c.args.mode c.args.value.now) c.args.plan.kinds 0 c.args.plan.count)
    (c.visit.ensures c.args.mode c.loop.table))
    c.plan_members-d.auto.table c.if-d-ne0.false

pub returns : goal.returns
returns c = going-all c.loop.invariant (omega arith)
