-- The characters are taken, and a line that ended is listed.
use borrow.Author.Tests.{not-true, not-false}
use Rattle.std.proofs.Common.{◌≤◌, length, refl, sym, ap, arith, length-take-le}
use Rattle.lines.specs.declared.Taken.{Taken}
use Rattle.lines.proofs.LinesOfBlocks.{kept-most}
use Rattle.recording_text.specs.Blocks.{work_of}
use Rattle.recording_text.proofs.TurnEquations.{begun-is, answered-is}
use Rattle.recording_text.proofs.block.turn.Goals as goal

pub returns-then-not-taken : goal.returns-then-not-taken
returns-then-not-taken c =
    begun-is c.args.block.now (work_of c.args.at c.args.line.now c.args.places.now c.args.out.now) _ _ c.take_line-taken.ensures (not-true c.take_line-taken.result.ended c.if-not-taken.true)

pub slice_bounds-list_line-end : goal.slice_bounds-list_line-end
slice_bounds-list_line-end c =
    let within : c.take_line-taken.result.kept ≤ length c.take_line-taken.new.line = omega (arith, c.take_line-taken.auto.line, ap (λ (t : Taken). t.kept) c.take_line-taken.ensures.answered, kept-most c.args.block.now c.args.at.next (length c.args.line.now) c.args.at.state.kept) in
    within

pub slice_bounds-list_line-end-2 : goal.slice_bounds-list_line-end-2
slice_bounds-list_line-end-2 c =
    let within : c.take_line-taken.result.kept ≤ length c.take_line-taken.new.line = omega (arith, c.take_line-taken.auto.line, ap (λ (t : Taken). t.kept) c.take_line-taken.ensures.answered, kept-most c.args.block.now c.args.at.next (length c.args.line.now) c.args.at.state.kept) in
    sym (length-take-le _ _ (within))

pub returns : goal.returns
returns c =
    answered-is c.args.block.now (work_of c.args.at c.args.line.now c.args.places.now c.args.out.now) _ _ c.take_line-taken.ensures (not-false c.take_line-taken.result.ended c.if-not-taken.false) _ refl c.list_line-listed.result _ _ c.list_line-listed.ensures
