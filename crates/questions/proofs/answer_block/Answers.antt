use mathlib.Core.Path.{ap}
use Prim.Native.Nat.{ℕ, ◌-◌}
use Rattle.questions.proofs.TurnsOfBlock.{going-turn}
use Rattle.questions.proofs.TurnsAnswer.{block-answered}
use Rattle.questions.proofs.answer_block.Goals as goal

pub loop-line-preserved : goal.loop-line-preserved
loop-line-preserved c =
    going-turn c.loop-line.invariant (c.goes_on.ensures.0 c.loop-line-test.true) c.turn-at.ensures c.turn-at.auto.table

pub returns : goal.returns
returns c =
    block-answered c.args.block.now c.args.from c.args.line.now c.args.out.now c.args.table.now c.args.kept _ _ _ _ _
    (ap (λ (n : ℕ). record { kept = c.args.kept; next = n; filled = 0 }) c.min.ensures) c.loop-line.invariant
    (c.goes_on.ensures.1 c.loop-line-test.false)
