-- 27, or the message as it is, and its place is freed.
use Rattle.joining.proofs.StepsTake.{frees}
use Rattle.joining.proofs.cancel.Goals as goal

pub returns : goal.returns
returns c =
    λ places. frees c.args.request.now c.args.before places c.args.out.now c.args.i c.closed.result _ _ c.if-out-request.false c.closed.ensures
    c.write_octets.ensures
