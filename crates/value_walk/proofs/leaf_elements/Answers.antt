-- Elements of a kind without parameters.
use Rattle.std.proofs.Common.{sym, ◌∙◌, arith}
use Rattle.value_meaning.specs.Reading.{reads}
use Rattle.value_cursor.specs.Walk.{sink_of, source_of, state_of}
use Rattle.value_walk.proofs.VisitIsNested as way
use Rattle.value_walk.proofs.leaf_elements.Goals as goal

pub returns-then-count-eq0 : goal.returns-then-count-eq0
returns-then-count-eq0 c =
    let k = sink_of c.args.mode in
    let x = source_of c.args.mode c.args.value.now in
    let s = state_of c.args.cursor c.args.table.now in
    λ t. sym (way.elements-none k x (reads k x t c.args.left) _ c.args.count s c.if-count-eq0.true)

pub returns-then-left-eq0 : goal.returns-then-left-eq0
returns-then-left-eq0 c =
    let k = sink_of c.args.mode in
    let x = source_of c.args.mode c.args.value.now in
    let s = state_of c.args.cursor c.args.table.now in
    λ t. c.refused.ensures c.args.table.now ∙ sym (way.elements-refused k x t c.args.left _ c.args.count s c.if-left-eq0.true c.if-count-eq0.false)

pub returns : goal.returns
returns c =
    let k = sink_of c.args.mode in
    let x = source_of c.args.mode c.args.value.now in
    let s = state_of c.args.cursor c.args.table.now in
    λ t. c.leaves.ensures ∙ sym (way.elements-leaves k x t c.args.left c.args.kind c.args.count s (omega (arith, c.if-left-eq0.false)))
