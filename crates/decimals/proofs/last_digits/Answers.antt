use native.Mathlib.Omega.{arith}
use lib.ListN.{length-set}
use Rattle.decimals.proofs.DecimalIs.{digits-left, stored-turn, stored_last}
use Rattle.decimals.proofs.last_digits.Goals as goal

pub loop-rest-preserved : goal.loop-rest-preserved
loop-rest-preserved c =
    let d = digits-left c.loop-rest.at c.loop-rest.rest c.loop-rest-test.true c.loop-rest.invariant.2 in (
      d.0,
      omega arith,
      d.1,
      simp length-set c.loop-rest.invariant.3,
      stored-turn _ c.loop-rest.at c.loop-rest.rest c.loop-rest.digits _ (omega arith) c.loop-rest.invariant.4 c.loop-rest-test.true c.loop-rest.invariant.2,
    )

pub returns : goal.returns
returns c =
    (omega arith, stored_last _ c.loop-rest.at c.loop-rest.rest c.loop-rest.digits _ (omega arith) c.loop-rest.invariant.4 c.loop-rest-test.false c.loop-rest.invariant.0)
