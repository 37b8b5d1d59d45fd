-- Octets that go into the table as they are.
use Rattle.value_runs.proofs.RowsAtOnce.{Filling}
use Rattle.value_runs.proofs.octets_in.Given as goal

abbrev pub invariant-loop-k : goal.invariant-loop-k
invariant-loop-k l = Filling l.value l.kind l.n l.cursor l.initial.table l.k l.last l.table
