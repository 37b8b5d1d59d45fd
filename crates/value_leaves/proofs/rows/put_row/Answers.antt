-- An item in its row.
use Rattle.std.proofs.Common.{le-ltb, lt-ltb, le-leb}
use borrow.Author.Tests.{lt-leb}
use Rattle.value_cursor.specs.Lent.{row_put}
use Rattle.value_leaves.proofs.rows.put_row.Goals as goal

pub returns-then-i-first : goal.returns-then-i-first
unfolding row_put
returns-then-i-first c = simp (lt-ltb _ _ c.if-i-first.true)

pub returns-then-table-row : goal.returns-then-table-row
unfolding row_put
returns-then-table-row c = simp (le-ltb _ _ c.if-i-first.false, le-leb _ _ c.if-table-row.true)

pub returns : goal.returns
unfolding row_put
returns c = simp (le-ltb _ _ c.if-i-first.false, lt-leb _ _ c.if-table-row.false)
