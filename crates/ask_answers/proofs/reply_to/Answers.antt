-- The first word, and those behind its space.
use mathlib.Core.Path.{refl}
use native.Mathlib.Omega.{arith}
use Rattle.ask_answers.proofs.WordsAnswered.{line-over, line-alone, line-words}
use Rattle.ask_answers.proofs.reply_to.Goals as goal

pub returns-then-line-gt-LINE_LIMIT : goal.returns-then-line-gt-LINE_LIMIT
returns-then-line-gt-LINE_LIMIT c =
    line-over c.args.line.now _ _ _ c.if-line-gt-LINE_LIMIT.true refl

pub returns-then-end-line : goal.returns-then-end-line
returns-then-end-line c =
    line-alone c.args.line.now _ _ _ c.if-line-gt-LINE_LIMIT.false _ c.first_end-end.ensures (omega (arith, c.if-end-line.true)) refl

pub returns : goal.returns
returns c =
    line-words c.args.line.now _ _ _ c.if-line-gt-LINE_LIMIT.false _ c.first_end-end.ensures (omega (arith, c.if-end-line.false, c.first_end-end.ensures.within)) _ c.reply_words.ensures
