use Rattle.std.proofs.Common.{arith}
use Rattle.value_leaves.proofs.RepeatsLoop.{going-all, going-stop, going_more}
use Rattle.value_leaves.proofs.references.profile_list.Goals as goal

pub returns-then-d-ne0 : goal.returns-then-d-ne0
returns-then-d-ne0 c =
    going-stop c.loop.invariant (omega arith) c.profile-d.ensures c.if-d-ne0.true

pub loop-preserved : goal.loop-preserved
loop-preserved c =
    going_more c.loop.invariant (omega arith) c.profile-d.ensures c.profile-d.auto.table c.if-d-ne0.false

pub returns : goal.returns
returns c = going-all c.loop.invariant (omega arith)
