-- Two halves of one octet, one after the other.
use Rattle.cdr_write.proofs.BufferHolds.{stored-halves}
use Rattle.cdr_write.proofs.store.number2.Goals as goal

pub returns : goal.returns
returns c =
    stored-halves c.args.order 1 c.args.at c.args.x _ _ c.args.out.now _ _ c.first_half.ensures c.second_half.ensures c.number1.ensures c.number1-2.ensures
