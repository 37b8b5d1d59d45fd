-- A text of so many octets.
use Rattle.std.proofs.Common.{sym, ap, ◌∙◌, arith}
use Rattle.std.specs.Prelude.{Err}
use Rattle.value_meaning.specs.Sinks.{item, failed, done, octets_at}
use Rattle.value_meaning.proofs.ReadingCases as way
use Rattle.value_cursor.specs.Walk.{sink_of, source_of, state_of}
use Rattle.value_leaves.proofs.references.text_got.Goals as goal

pub overflow_add-next : goal.overflow_add-next
overflow_add-next c =
    omega (
      arith,
      way.chars-fit c.args.value.now c.args.cursor.at c.args.length c.args.bound _
          (sym c.read_text.ensures ∙ c.in-Ok.is),
    )

pub overflow_add-next-in-Err-Zeros : goal.overflow_add-next-in-Err-Zeros
overflow_add-next-in-Err-Zeros c =
    omega (arith, way.zeros-fit c.args.value.now c.args.cursor.at c.args.length c.args.bound (sym c.read_text.ensures ∙ c.in-Err-Zeros.is ∙ ap Err c.in-Err-Zeros.field-0-is))

pub returns-in-Ok : goal.returns-in-Ok
returns-in-Ok c =
    let sink = sink_of c.args.mode in
    let src = source_of c.args.mode c.args.value.now in
    λ p. c.put.ensures
    ∙ ap (done sink (item 18 c.args.cursor.at _))
    (c.passed.ensures c.args.mode c.args.table.now c.args.cursor.at (octets_at sink src c.args.cursor.at c.args.length))
    ∙ sym (way.text-is sink src c.args.bound p c.args.length (state_of c.args.cursor c.args.table.now) _ (sym c.in-Ok.is ∙ c.read_text.ensures))

pub returns-in-Err-Empty : goal.returns-in-Err-Empty
returns-in-Err-Empty c =
    λ p. c.refused.ensures c.args.table.now
    ∙ sym
    (way.text-is (sink_of c.args.mode) (source_of c.args.mode c.args.value.now) c.args.bound p c.args.length (state_of c.args.cursor c.args.table.now) _
    (sym (c.in-Err-Empty.is ∙ ap Err c.in-Err-Empty.field-0-is) ∙ c.read_text.ensures))

pub returns-in-Err-Over : goal.returns-in-Err-Over
returns-in-Err-Over c =
    λ p. c.refused-in-Err-Over.ensures c.args.table.now
    ∙ sym
    (way.text-is (sink_of c.args.mode) (source_of c.args.mode c.args.value.now) c.args.bound p c.args.length (state_of c.args.cursor c.args.table.now) _
    (sym (c.in-Err-Over.is ∙ ap Err c.in-Err-Over.field-0-is) ∙ c.read_text.ensures))

pub returns-in-Err-Short : goal.returns-in-Err-Short
returns-in-Err-Short c =
    λ p. c.refused-in-Err-Short.ensures c.args.table.now
    ∙ sym
    (way.text-is (sink_of c.args.mode) (source_of c.args.mode c.args.value.now) c.args.bound p c.args.length (state_of c.args.cursor c.args.table.now) _
    (sym (c.in-Err-Short.is ∙ ap Err c.in-Err-Short.field-0-is) ∙ c.read_text.ensures))

pub returns-in-Err-Zeros : goal.returns-in-Err-Zeros
returns-in-Err-Zeros c =
    let sink = sink_of c.args.mode in
    let src = source_of c.args.mode c.args.value.now in
    λ p. c.refused-in-Err-Zeros.ensures c.args.table.now
    ∙ ap (failed 53) (c.passed-in-Err-Zeros.ensures c.args.mode c.args.table.now c.args.cursor.at (octets_at sink src c.args.cursor.at c.args.length))
    ∙ sym
    (way.text-is sink src c.args.bound p c.args.length (state_of c.args.cursor c.args.table.now) _
    (sym (c.in-Err-Zeros.is ∙ ap Err c.in-Err-Zeros.field-0-is) ∙ c.read_text.ensures))
