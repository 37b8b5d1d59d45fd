-- What stands behind the kind.
use native.Mathlib.Omega.{arith}
use Rattle.header_head.proofs.CopiedParts.{of-kind-0, of-kind-1, of-kind-2}
use Rattle.header_head.proofs.copies.of_kind.Goals as goal

pub returns-in-0 : goal.returns-in-0
returns-in-0 c =
    of-kind-0 c.args.s.now c.args.order c.args.at c.args.out.now c.args.kind c.in-0.is _ _ c.counted.ensures

pub returns-in-1 : goal.returns-in-1
returns-in-1 c =
    of-kind-1 c.args.s.now c.args.order c.args.at c.args.out.now c.args.kind c.in-1.is _ _ c.tagged.ensures

pub returns-in_default : goal.returns-in_default
returns-in_default c =
    of-kind-2 c.args.s.now c.args.order c.args.at c.args.out.now c.args.kind (omega (arith, c.in_default)) (omega (arith, c.in_default)) _ _
    c.reference.ensures
