-- Octets as they are.
use Rattle.std.proofs.Common.{sym, ap, ◌∙◌}
use Rattle.value_meaning.specs.Sinks.{item, done, octets_at}
use Rattle.value_meaning.proofs.ReadingCases as way
use Rattle.value_cursor.specs.Walk.{sink_of, source_of, state_of}
use Rattle.value_leaves.proofs.references.run_got.Goals as goal

pub returns-in-Some : goal.returns-in-Some
returns-in-Some c =
    let sink = sink_of c.args.mode in
    let src = source_of c.args.mode c.args.value.now in
    λ p. c.put.ensures
    ∙ ap (done sink (item 256 c.args.cursor.at c.args.count))
    (c.passed.ensures c.args.mode c.args.table.now c.args.cursor.at (octets_at sink src c.args.cursor.at c.args.count))
    ∙ sym (way.run-some sink src p c.args.count (state_of c.args.cursor c.args.table.now) _ (sym c.read_run.ensures ∙ c.in-Some.is))

pub returns-in-None : goal.returns-in-None
returns-in-None c =
    λ p. c.refused.ensures c.args.table.now
    ∙ sym
    (way.run_none (sink_of c.args.mode) (source_of c.args.mode c.args.value.now) p c.args.count (state_of c.args.cursor c.args.table.now)
    (sym c.read_run.ensures ∙ c.in-None.is))
