-- Numbers in a row that go into a table.
use Rattle.std.proofs.Common.{arith}
use Rattle.value_runs.proofs.RowsAtOnce.{octets-kind, row-filled}
use Rattle.value_runs.proofs.filled.Goals as goal

pub returns-in-9 : goal.returns-in-9
returns-in-9 c =
    c.octets_in.ensures c.args.mode (row-filled c.requires.0 (octets-kind c.args.kind (omega arith) (omega arith)) c.requires.1 c.if-mode-ne0.false)
