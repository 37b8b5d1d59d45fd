-- Two halves of two octets.
use Rattle.cdr_write.proofs.BufferHolds.{stored-halves}
use Rattle.cdr_write.proofs.store.number4.Goals as goal

pub returns : goal.returns
returns c =
    stored-halves c.args.order 2 c.args.at c.args.x _ _ c.args.out.now _ _ c.first_half.ensures c.second_half.ensures c.number2.ensures c.number2-2.ensures
