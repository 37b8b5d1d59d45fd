-- What is done with the number of a primitive.
use Rattle.std.proofs.Common.{ℕ, sym, ap, ◌∙◌}
use Rattle.value_meaning.specs.Sinks.{item, done}
use Rattle.value_meaning.proofs.ReadingCases as way
use Rattle.value_cursor.specs.Walk.{sink_of, source_of, state_of}
use Rattle.value_leaves.proofs.primitives.leaf_done.Goals as goal

pub returns-then-value-gt1 : goal.returns-then-value-gt1
returns-then-value-gt1 c =
    λ v. c.refused.ensures _
    ∙ sym
    (way.leaf-above (sink_of c.args.mode) (source_of c.args.mode v) c.args.kind c.args.place c.args.value _ c.if-kind-eq-BOOLEAN.true
    c.if-value-gt1.true)

pub returns-then-kind-eq-BOOLEAN : goal.returns-then-kind-eq-BOOLEAN
returns-then-kind-eq-BOOLEAN c =
    λ v. c.put.ensures
    ∙ sym (way.leaf-boolean (sink_of c.args.mode) (source_of c.args.mode v) c.args.kind c.args.place c.args.value _ c.if-kind-eq-BOOLEAN.true c.if-value-gt1.false)

pub returns : goal.returns
returns c =
    let sink = sink_of c.args.mode in
    λ v. c.put-2.ensures
    ∙ ap (λ (n : ℕ). done sink (item c.args.kind c.args.place n) (state_of c.args.cursor c.args.table.now))
    c.content_of.ensures
    ∙ sym (way.leaf-other sink (source_of c.args.mode v) c.args.kind c.args.place c.args.value _ c.if-kind-eq-BOOLEAN.false)
