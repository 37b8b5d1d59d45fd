use mathlib.Core.Path.{ap, ◌∙◌}
use native.Mathlib.Omega.{arith}
use Prim.Native.Nat.{ℕ, ◌-◌}
use Rattle.value_meaning.specs.Visit.{leaf_at}
use Rattle.value_meaning.specs.Sinks.{begun}
use Rattle.value_cursor.specs.Walk.{sink_of, source_of, state_of}
use Rattle.value_plans.proofs.PlanReadsStruct.{stepping-all, stepping-stop, stepping-more}
use Rattle.value_plans.proofs.plan_members.Goals as goal

pub returns-then-d-ne0 : goal.returns-then-d-ne0
returns-then-d-ne0 c =
    let k = sink_of c.args.mode in
    let x = source_of c.args.mode c.args.value.now in
    let step = c.leaf-d.ensures ∙ ap (leaf_at k x c.kind_at.result) (c.visit.ensures c.args.mode c.loop-k.table)
    ∙ ap (λ (i : ℕ). leaf_at k x i (begun k (state_of c.loop-k.d c.loop-k.table))) c.kind_at.ensures in
    stepping-stop k x c.args.plan.kinds c.loop-k.invariant (omega arith) step c.if-d-ne0.true

pub loop-k-preserved : goal.loop-k-preserved
loop-k-preserved c =
    let k = sink_of c.args.mode in
    let x = source_of c.args.mode c.args.value.now in
    let step = c.leaf-d.ensures ∙ ap (leaf_at k x c.kind_at.result) (c.visit.ensures c.args.mode c.loop-k.table)
    ∙ ap (λ (i : ℕ). leaf_at k x i (begun k (state_of c.loop-k.d c.loop-k.table))) c.kind_at.ensures in
    stepping-more k x c.args.plan.kinds c.loop-k.invariant (omega arith) step c.leaf-d.auto.table c.if-d-ne0.false

pub returns : goal.returns
returns c =
    stepping-all (sink_of c.args.mode) (source_of c.args.mode c.args.value.now) c.args.plan.kinds c.loop-k.invariant (omega arith)
