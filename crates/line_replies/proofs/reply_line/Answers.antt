-- About a header where there is room, or about another thing.
use mathlib.Core.Path.{sym, ◌∙◌}
use Rattle.line_replies.proofs.LinesReplied.{reply-left, header-written, other-written}
use Rattle.line_replies.proofs.reply_line.Goals as goal

pub returns-then-has_room : goal.returns-then-has_room
returns-then-has_room c = header-written _ _ _ _ (sym c.asks.ensures ∙ c.if-asks.true) (sym c.if-has_room.true ∙ c.has_room.ensures) _ _ c.answer.ensures

pub returns-then-asks : goal.returns-then-asks
returns-then-asks c = reply-left _ _ _ _ (sym c.if-has_room.false ∙ c.has_room.ensures)

pub returns : goal.returns
returns c = other-written _ _ _ _ (sym c.asks.ensures ∙ c.if-asks.false) _ _ _ c.answer_line.ensures
