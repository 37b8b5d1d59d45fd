-- A kind without parameters.
use Rattle.std.proofs.Common.{sym, ap, ◌∙◌, arith}
use Rattle.cdr.proofs.GapsBounded.{read-facts}
use Rattle.value_meaning.specs.Visit.{leaf_done}
use Rattle.value_meaning.proofs.ReadingCases as way
use Rattle.value_cursor.specs.Walk.{sink_of, source_of, state_of}
use Rattle.value_leaves.proofs.leaf.Goals as goal

pub returns-then-kind-lt-SHORT : goal.returns-then-kind-lt-SHORT
returns-then-kind-lt-SHORT c =
    sym (way.leaf-nothing (sink_of c.args.mode) (source_of c.args.mode c.args.value.now) c.args.kind (state_of c.args.cursor c.args.table.now) c.if-kind-lt-SHORT.true)

pub overflow_add-next : goal.overflow_add-next
overflow_add-next c =
    omega (
      arith,
      (read-facts c.args.value.now c.args.mode.start c.args.cursor.at c.size_of-size.result c.args.mode.order _ _
          (sym c.number_at.ensures ∙ c.in-Some.is)).fits,
      c.octets.ensures,
    )

pub returns-in-Some : goal.returns-in-Some
returns-in-Some c =
    let sink = sink_of c.args.mode in
    let src = source_of c.args.mode c.args.value.now in
    c.leaf_done.ensures c.args.value.now
    ∙ ap (leaf_done sink src c.args.kind _ _) (c.took.ensures c.args.mode c.args.table.now _ _ _)
    ∙ sym
    (way.leaf-read sink src c.args.kind c.size_of-size.result _ _ c.octets.result (state_of c.args.cursor c.args.table.now) c.if-kind-lt-SHORT.false c.size_of-size.ensures
    c.octets.ensures (sym c.number_at.ensures ∙ c.in-Some.is))

pub returns-in-None : goal.returns-in-None
returns-in-None c =
    c.refused.ensures c.args.table.now
    ∙ sym
    (way.leaf-ends (sink_of c.args.mode) (source_of c.args.mode c.args.value.now) c.args.kind c.size_of-size.result (state_of c.args.cursor c.args.table.now) c.if-kind-lt-SHORT.false
    c.size_of-size.ensures (sym c.number_at.ensures ∙ c.in-None.is))
