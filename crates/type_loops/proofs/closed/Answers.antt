use Rattle.type_loops.proofs.RoundsDone.{closed_none, closed-more}
use borrow.Author.Rules.{rules}
use Rattle.type_loops.proofs.closed.Goals as goal

pub loop-k-init : goal.loop-k-init
loop-k-init c = (search rules, search rules, closed_none _ _)

pub loop-k-preserved : goal.loop-k-preserved
loop-k-preserved c =
    (search rules, c.close_round.ensures.long, closed-more _ _ _ _ _ c.loop-k-test.true c.loop-k.invariant.2 c.close_round.ensures)
