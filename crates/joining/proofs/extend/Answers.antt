-- The body stands behind what the place holds.
use native.Mathlib.Omega.{arith}
use Rattle.joining.proofs.StepsTake.{lengthens}
use Rattle.joining.proofs.extend.Goals as goal

pub returns : goal.returns
returns c =
    λ out. lengthens c.args.octets.now
    c.args.before c.args.places.now out c.args.i c.lengthened.result _ _ (omega arith) c.lengthened.ensures
    c.write_octets.ensures
