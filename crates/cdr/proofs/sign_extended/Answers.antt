-- Each size has its own range; eight octets are a whole word already.
use native.Mathlib.Omega.{arith}
use Rattle.cdr.specs.Number.{sign_extended}
use Rattle.cdr.proofs.NumbersGivenBack.{extended-eight}
use Rattle.cdr.proofs.sign_extended.Goals as goal

pub returns-in-One : goal.returns-in-One
unfolding sign_extended
returns-in-One c = rw c.in-One.is c.extended.ensures

pub returns-in-Two : goal.returns-in-Two
unfolding sign_extended
returns-in-Two c = rw c.in-Two.is c.extended-in-Two.ensures

pub returns-in-Four : goal.returns-in-Four
unfolding sign_extended
returns-in-Four c = rw c.in-Four.is c.extended-in-Four.ensures

pub returns-in-Eight : goal.returns-in-Eight
unfolding sign_extended
returns-in-Eight c = rw c.in-Eight.is (extended-eight c.args.x (omega arith))
