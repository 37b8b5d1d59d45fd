use Rattle.std.proofs.Common.{arith}
use Rattle.value_leaves.proofs.RepeatsLoop.{going-all, going-stop, going_more}
use Rattle.value_walk.proofs.flat_elements.Goals as goal

pub returns-then-d-ne0 : goal.returns-then-d-ne0
returns-then-d-ne0 c t =
    going-stop (c.loop.invariant t) (omega arith) (c.flat-d.ensures t) c.if-d-ne0.true

pub loop-preserved : goal.loop-preserved
loop-preserved c t =
    going_more (c.loop.invariant t) (omega arith) (c.flat-d.ensures t) c.flat-d.auto.table c.if-d-ne0.false

pub returns : goal.returns
returns c t = going-all (c.loop.invariant t) (omega arith)
