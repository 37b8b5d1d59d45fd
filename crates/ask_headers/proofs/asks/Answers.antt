-- By the first word.
use mathlib.Core.Path.{◌∙◌}
use Rattle.ask_headers.proofs.HeaderWords.{over-asks, line-asks}
use Rattle.ask_headers.proofs.asks.Goals as goal

pub returns-then-line-gt-LINE_LIMIT : goal.returns-then-line-gt-LINE_LIMIT
returns-then-line-gt-LINE_LIMIT c = over-asks c.args.line.now c.if-line-gt-LINE_LIMIT.true

pub returns : goal.returns
returns c =
    c.is_header_word.ensures ∙ line-asks c.args.line.now c.if-line-gt-LINE_LIMIT.false _ c.first_end-end.ensures
