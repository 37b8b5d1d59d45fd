-- A line that was begun is listed, then the closing line is put.
use Rattle.std.proofs.Common.{refl}
use Rattle.recording_text.proofs.EndListed.{end_none, end_fits, end-one}
use Rattle.recording_text.proofs.answer_end.Goals as goal

pub returns-then-kept-eq0 : goal.returns-then-kept-eq0
returns-then-kept-eq0 c =
    end_none c.args.line.now c.args.places.now c.args.out.now c.args.state c.if-out.false _ c.min-kept.ensures c.if-kept-eq0.true _ _ _ c.open_count-count.ensures c.put_end.ensures

pub put_end-requires-2 : goal.put_end-requires-2
put_end-requires-2 c =
    end_fits c.args.line.now c.args.places.now c.args.out.now c.args.state c.if-out.false _ c.min-kept.ensures c.if-kept-eq0.false _ refl c.list_line-listed.result _ _ c.list_line-listed.ensures

pub returns : goal.returns
returns c =
    end-one c.args.line.now c.args.places.now c.args.out.now c.args.state c.if-out.false _ c.min-kept.ensures c.if-kept-eq0.false _ refl c.list_line-listed.result _ _ c.list_line-listed.ensures _ _ _ c.open_count-count-2.ensures c.put_end-2.ensures
