-- Numbers in a row that go into the table.
use Rattle.value_runs.proofs.RowsAtOnce.{Storing}
use Rattle.value_runs.proofs.numbers_in.Given as goal

abbrev pub invariant-loop-k : goal.invariant-loop-k
invariant-loop-k l = Storing l.mode l.value l.kind l.size l.n l.p l.cursor l.initial.table l.k l.last l.table
