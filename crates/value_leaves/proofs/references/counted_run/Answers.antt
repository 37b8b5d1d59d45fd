-- Octets behind their count.
use Rattle.std.proofs.Common.{sym, ap, ◌∙◌, arith}
use Rattle.cdr.specs.declared.Size.TheVariants.{Four}
use Rattle.cdr.proofs.GapsBounded.{read-facts}
use Rattle.value_meaning.specs.Visit.{run_got, run_at}
use Rattle.value_meaning.proofs.ReadingCases as way
use Rattle.value_cursor.specs.Walk.{sink_of, source_of, state_of}
use Rattle.value_leaves.proofs.references.counted_run.Goals as goal

pub overflow_add-at : goal.overflow_add-at
overflow_add-at c =
    omega (
      arith,
      (read-facts c.args.value.now c.args.mode.start c.args.cursor.at Four c.args.mode.order _ _
          (sym c.number_at.ensures ∙ c.in-Some.is)).fits,
    )

pub returns-in-Some : goal.returns-in-Some
unfolding run_at
returns-in-Some c =
    let sink = sink_of c.args.mode in
    let src = source_of c.args.mode c.args.value.now in
    c.run_got.ensures _
    ∙ ap (run_got sink src _ _) (c.took.ensures c.args.mode c.args.table.now _ _ 4)
    ∙ sym (way.number-some sink src Four (run_got sink src) (state_of c.args.cursor c.args.table.now) _ _ (sym c.number_at.ensures ∙ c.in-Some.is))

pub returns-in-None : goal.returns-in-None
unfolding run_at
returns-in-None c =
    let sink = sink_of c.args.mode in
    let src = source_of c.args.mode c.args.value.now in
    c.refused.ensures c.args.table.now
    ∙ sym
    (way.number-none sink src Four (run_got sink src) (state_of c.args.cursor c.args.table.now)
    (sym c.number_at.ensures ∙ c.in-None.is))
