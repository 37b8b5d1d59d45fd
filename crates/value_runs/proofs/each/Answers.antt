use Rattle.std.proofs.Common.{ap, ◌∙◌, arith}
use Rattle.value_meaning.specs.Visit.{leaf_at}
use Rattle.value_cursor.specs.Walk.{sink_of, source_of}
use Rattle.value_leaves.proofs.RepeatsLoop.{going-all, going-stop, going_more}
use Rattle.value_runs.proofs.each.Goals as goal

pub returns-then-d-ne0 : goal.returns-then-d-ne0
returns-then-d-ne0 c =
    going-stop c.loop.invariant (omega arith)
    (c.leaf-d.ensures ∙ ap (leaf_at (sink_of c.args.mode) (source_of c.args.mode c.args.value.now) c.args.kind) (c.visit.ensures c.args.mode c.loop.table))
    c.if-d-ne0.true

pub loop-preserved : goal.loop-preserved
loop-preserved c =
    going_more c.loop.invariant (omega arith)
    (c.leaf-d.ensures ∙ ap (leaf_at (sink_of c.args.mode) (source_of c.args.mode c.args.value.now) c.args.kind) (c.visit.ensures c.args.mode c.loop.table))
    c.leaf-d.auto.table c.if-d-ne0.false

pub returns : goal.returns
returns c = going-all c.loop.invariant (omega arith)
