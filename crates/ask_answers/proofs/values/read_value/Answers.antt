-- The value is read into a table of the room's size, and its items stand at the start.
use native.Mathlib.Omega.{arith}
use Rattle.ask_answers.proofs.ItemsStand.{value-refused, value-accepted}
use Rattle.ask_answers.proofs.values.read_value.Goals as goal

pub returns-in-Accepted : goal.returns-in-Accepted
returns-in-Accepted c =
    value-accepted c.args.types.now c.args.typed _ c.args.room c.args.table.now _ c.room_of-n.ensures (omega (arith, c.room_of-n.ensures, c.requires)) _ c.read_value-answer.ensures.0 _ _ _ c.in-Accepted.is _ c.read_value-answer.ensures.1

pub returns-in-Refused : goal.returns-in-Refused
returns-in-Refused c =
    value-refused c.args.types.now c.args.typed _ c.args.room c.args.table.now _ c.room_of-n.ensures (omega (arith, c.room_of-n.ensures, c.requires)) _ c.read_value-answer.ensures.0 _ _ c.in-Refused.is _ c.read_value-answer.ensures.1
