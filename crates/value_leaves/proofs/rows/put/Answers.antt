-- An item is finished.
use Rattle.std.proofs.Common.{sym, ◌∙◌}
use Rattle.value_meaning.proofs.ReadingCases as way
use Rattle.value_cursor.specs.Walk.{sink_of}
use Rattle.value_leaves.proofs.rows.put.Goals as goal

pub returns-then-is_full : goal.returns-then-is_full
returns-then-is_full c =
    c.refused.ensures c.args.table.now ∙ sym (way.done_full (sink_of c.args.mode) _ _ (sym c.is_full.ensures ∙ c.if-is_full.true))

pub returns : goal.returns
returns c = rw c.put_in.ensures (sym (way.done-room (sink_of c.args.mode) _ _ (sym c.is_full.ensures ∙ c.if-is_full.false)))
