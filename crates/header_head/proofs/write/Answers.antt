-- The frame, the parts and the gap; or no room.
use Rattle.header_head.proofs.HeadsWritten.{frame-there, head-written}
use mathlib.Core.Path.{◌∙◌}
use Rattle.header_head.proofs.write.Goals as goal

pub returns : goal.returns
returns c =
    head-written c.args.s.now c.args.kind c.args.order c.args.minor c.args.body c.args.out.now c.if-out-body.false _ (c.octets_in.ensures.octets
    ∙ frame-there c.args.s.now) _ _ c.write_octets.ensures _ _ c.parts-end.ensures _ c.zeros.ensures
