-- The octets that were written stand in the memory.
use mathlib.Core.Path.{sym}
use lib.Seq.{length-take-le}
use Rattle.ask_headers.proofs.HeadsGiven.{head-refused, head-within, head-given}
use Rattle.ask_headers.proofs.write_head.Goals as goal

pub slice_bounds-write-end : goal.slice_bounds-write-end
slice_bounds-write-end c =
    head-within c.args.message.now c.args.room c.args.memory.now _ c.min-n.ensures c.requires _ c.head.ensures.0 _ c.in-Ok.is _ c.head.ensures.1

pub slice_bounds-write-end-in-Ok : goal.slice_bounds-write-end-in-Ok
slice_bounds-write-end-in-Ok c =
    sym (length-take-le _ _ (head-within c.args.message.now c.args.room c.args.memory.now _ c.min-n.ensures c.requires _ c.head.ensures.0 _ c.in-Ok.is _ c.head.ensures.1))

pub returns-in-Ok : goal.returns-in-Ok
returns-in-Ok c =
    rw (head-given c.args.message.now c.args.room c.args.memory.now _ c.min-n.ensures c.requires _ c.head.ensures.0 _ c.in-Ok.is _ c.head.ensures.1) c.write.ensures

pub returns-in-Err : goal.returns-in-Err
returns-in-Err c =
    rw (head-refused c.args.message.now c.args.room c.args.memory.now _ c.min-n.ensures c.requires _ c.head.ensures.0 _ c.in-Err.is _ c.number.ensures c.args.message.now) c.write-in-Err.ensures
