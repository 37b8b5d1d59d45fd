-- The octets stand at the start of the place.
use native.Mathlib.Omega.{arith}
use Rattle.joining.proofs.StepsTake.{opens}
use Rattle.joining.proofs.first.Goals as goal

pub returns : goal.returns
returns c =
    λ out. opens c.args.octets.now c.args.before c.args.places.now out c.args.i c.args.id c.opened.result _ _ (omega arith) c.opened.ensures
    c.write_octets.ensures
