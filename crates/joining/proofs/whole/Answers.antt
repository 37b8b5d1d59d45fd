-- 27, or the message as it is.
use Rattle.joining.proofs.StepsTake.{passes}
use Rattle.joining.proofs.whole.Goals as goal

pub returns : goal.returns
returns c =
    λ places. passes c.args.octets.now c.args.before places c.args.out.now _ _ c.if-out-octets.false
    c.write_octets.ensures
