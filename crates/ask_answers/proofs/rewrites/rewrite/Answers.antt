-- The value is rewritten into memory of the room's size, and its octets stand at the start.
use Rattle.ask_answers.proofs.RoomEnough.{rewrite-refused, rewrite-accepted}
use Rattle.ask_answers.proofs.rewrites.rewrite.Goals as goal

pub returns-in-Accepted : goal.returns-in-Accepted
returns-in-Accepted c =
    rewrite-accepted c.args.types.now c.args.typed _ _ c.args.room c.args.memory.now _ c.min-n.ensures c.requires _ c.rewrite-answer.ensures.0 _ c.in-Accepted.is _ c.rewrite-answer.ensures.1

pub returns-in-Refused : goal.returns-in-Refused
returns-in-Refused c =
    rewrite-refused c.args.types.now c.args.typed _ _ c.args.room c.args.memory.now _ c.min-n.ensures c.requires _ c.rewrite-answer.ensures.0 _ c.in-Refused.is _
