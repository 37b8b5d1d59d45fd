-- From each place on, the search comes to the same LF.
use Rattle.lines.specs.Inner.{SameLF}
use Rattle.lines.proofs.find_lf.Given as goal

abbrev pub invariant-loop-i : goal.invariant-loop-i
invariant-loop-i l = SameLF l.block l.from l.i
