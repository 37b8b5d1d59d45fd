-- The characters are taken, and a line that ended is answered.
use borrow.Author.Tests.{not-true, not-false}
use mathlib.Core.Path.{sym}
use lib.Seq.{length-take-le}
use Rattle.questions.proofs.TurnsAnswer.{taken-within, turn-begun, turn-ended}
use Rattle.questions.proofs.block.turn.Goals as goal

pub returns-then-not-taken : goal.returns-then-not-taken
returns-then-not-taken c =
    turn-begun c.args.block.now c.args.at c.args.line.now c.args.out.now c.args.table.now c.requires _ _ c.take_line-taken.ensures (not-true c.take_line-taken.result.ended c.if-not-taken.true)

pub slice_bounds-answer_line-end : goal.slice_bounds-answer_line-end
slice_bounds-answer_line-end c =
    taken-within c.args.block.now c.args.at c.args.line.now c.args.out.now c.args.table.now c.requires _ _ c.take_line-taken.ensures

pub slice_bounds-answer_line-end-2 : goal.slice_bounds-answer_line-end-2
slice_bounds-answer_line-end-2 c =
    sym (length-take-le _ _ (taken-within c.args.block.now c.args.at c.args.line.now c.args.out.now c.args.table.now c.requires _ _ c.take_line-taken.ensures))

pub returns : goal.returns
returns c =
    turn-ended c.args.block.now c.args.at c.args.line.now c.args.out.now c.args.table.now c.requires _ _ c.take_line-taken.ensures (not-false c.take_line-taken.result.ended c.if-not-taken.false)
    _ _ _ c.answer_line.ensures _ c.in-Some.is
