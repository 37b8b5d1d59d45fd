-- Numbers in a row that go into no table.
use Rattle.std.proofs.Common.{◌-◌, refl, sym, ◌∙◌, arith}
use Rattle.cdr.proofs.GapsBounded.{read-facts}
use Rattle.value_runs.proofs.RowsAtOnce.{row_ends, row-passed}
use Rattle.value_runs.proofs.passed_over.Goals as goal

pub overflow_add-result : goal.overflow_add-result
overflow_add-result c =
    omega (
      arith,
      (read-facts c.args.value.now c.args.mode.start _ c.args.size c.args.mode.order _ _
          (sym c.number_at.ensures ∙ c.in-Some.is)).fits,
      c.octets-w.ensures,
    )

pub returns-in-Some : goal.returns-in-Some
returns-in-Some c =
    row-passed c.args.mode c.args.value.now c.args.kind c.args.size c.requires.0.plain.primitive c.requires.0.plain.other c.requires.0.sized c.args.n c.args.p c.args.cursor
    c.requires.0 c.requires.1 c.octets-w.result c.octets-w.ensures _ _ (sym c.number_at.ensures ∙ c.in-Some.is)
    _ _ refl refl

pub returns-in-None : goal.returns-in-None
returns-in-None c =
    absurd
    (row_ends c.args.mode c.args.value.now c.args.kind c.args.size c.requires.0.plain.primitive c.requires.0.plain.other c.requires.0.sized c.args.n c.args.p c.args.cursor
    c.requires.0 c.octets-w.result c.octets-w.ensures (sym c.number_at.ensures ∙ c.in-None.is))
