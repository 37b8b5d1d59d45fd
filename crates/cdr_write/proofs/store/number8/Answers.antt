-- Two halves of four octets.
use Rattle.cdr_write.proofs.BufferHolds.{stored-halves}
use Rattle.cdr_write.proofs.store.number8.Goals as goal

pub returns : goal.returns
returns c =
    stored-halves c.args.order 4 c.args.at c.args.x _ _ c.args.out.now _ _ c.first_half.ensures c.second_half.ensures c.number4.ensures c.number4-2.ensures
