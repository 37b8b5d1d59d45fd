-- One octet is stored as it is.
use Rattle.cdr_write.proofs.BufferHolds.{one-octet}
use Rattle.cdr_write.proofs.store.number1.Goals as goal

pub returns : goal.returns
returns c = rw (one-octet c.args.order c.args.x)
