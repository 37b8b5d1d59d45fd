-- Row by row, with the row of k as it was.
use Rattle.type_loops.proofs.RoundsDone.{RoundTo}
use Rattle.type_loops.proofs.close_round.Given as goal

abbrev pub invariant-loop-i : goal.invariant-loop-i
invariant-loop-i l = RoundTo l.n l.k l.onward l.initial.rows l.rows l.i
