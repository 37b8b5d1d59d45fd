-- An enum.
use Rattle.std.proofs.Common.{sym, ap, ◌∙◌, arith}
use Rattle.cdr.specs.declared.Size.TheVariants.{Four}
use Rattle.cdr.proofs.GapsBounded.{read-facts}
use Rattle.value_meaning.specs.Sinks.{item, failed, done}
use Rattle.value_meaning.specs.Visit.{enum_done, enum_at}
use Rattle.value_meaning.proofs.ReadingCases as way
use Rattle.value_cursor.specs.Walk.{sink_of, source_of, state_of}
use Rattle.value_leaves.proofs.enumerated.Goals as goal

pub overflow_add-at : goal.overflow_add-at
overflow_add-at c =
    omega (
      arith,
      (read-facts c.args.value.now c.args.mode.start c.args.cursor.at Four c.args.mode.order _ _
          (sym c.number_at.ensures ∙ c.in-Some.is)).fits,
    )

pub returns-then-names-number : goal.returns-then-names-number
unfolding enum_at
returns-then-names-number c =
    let sink = sink_of c.args.mode in
    let src = source_of c.args.mode c.args.value.now in
    c.refused.ensures c.args.table.now
    ∙ ap (failed 52) (c.took.ensures c.args.mode c.args.table.now _ _ 4)
    ∙ sym
    ((way.number-some sink src Four (enum_done sink src c.args.names) (state_of c.args.cursor c.args.table.now) _ _
    (sym c.number_at.ensures ∙ c.in-Some.is))
    ∙ way.enum-above sink src c.args.names _ _ _ c.if-names-number.true)

pub overflow_add-at-in-Some : goal.overflow_add-at-in-Some
overflow_add-at-in-Some c =
    omega (
      arith,
      (read-facts c.args.value.now c.args.mode.start c.args.cursor.at Four c.args.mode.order _ _
          (sym c.number_at.ensures ∙ c.in-Some.is)).fits,
    )

pub returns-else-names-number : goal.returns-else-names-number
unfolding enum_at
returns-else-names-number c =
    let sink = sink_of c.args.mode in
    let src = source_of c.args.mode c.args.value.now in
    c.put.ensures
    ∙ ap (done sink (item 17 _ _)) (c.took-in-Some.ensures c.args.mode c.args.table.now _ _ 4)
    ∙ sym
    ((way.number-some sink src Four (enum_done sink src c.args.names) (state_of c.args.cursor c.args.table.now) _ _
    (sym c.number_at.ensures ∙ c.in-Some.is))
    ∙ way.enum-named sink src c.args.names _ _ _ c.if-names-number.false)

pub returns-in-None : goal.returns-in-None
unfolding enum_at
returns-in-None c =
    let sink = sink_of c.args.mode in
    let src = source_of c.args.mode c.args.value.now in
    c.refused-in-None.ensures c.args.table.now
    ∙ sym
    (way.number-none sink src Four (enum_done sink src c.args.names) (state_of c.args.cursor c.args.table.now)
    (sym c.number_at.ensures ∙ c.in-None.is))
