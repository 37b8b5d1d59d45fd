-- Where there is room, the answer is written.
use mathlib.Core.Path.{sym, ◌∙◌}
use Rattle.ask_answers.proofs.LineByRoom.{line-written}
use Rattle.ask_answers.proofs.answer_line.Goals as goal

pub returns-then-has_room : goal.returns-then-has_room
returns-then-has_room c =
    line-written _ _ _ _ (sym c.if-has_room.true ∙ c.has_room.ensures) _ _ _ c.answer_with.ensures.0 c.answer_with.ensures.1
