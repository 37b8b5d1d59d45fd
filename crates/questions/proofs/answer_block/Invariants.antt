-- The turns go on in the block, and each is answered.
use Prim.Native.Nat.{◌-◌}
use lib.ListN.{length}
use Rattle.questions.specs.Blocks.{ask_work}
use Rattle.questions.proofs.TurnsOfBlock.{Going}
use Rattle.questions.proofs.answer_block.Given as goal

abbrev pub invariant-loop-line : goal.invariant-loop-line
invariant-loop-line l = Going l.block (ask_work l.initial.at l.initial.line l.initial.out l.initial.table) (ask_work l.at l.line l.out l.table)

abbrev pub decreases-loop-line : goal.decreases-loop-line
decreases-loop-line l = length l.block - l.at.next
