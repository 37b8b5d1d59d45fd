-- By the first word and those behind it.
use native.Mathlib.Omega.{arith}
use Rattle.ask_headers.proofs.HeaderWords.{line-over, line-alone, line-words}
use Rattle.ask_headers.proofs.answer.Goals as goal

pub returns-then-line-gt-LINE_LIMIT : goal.returns-then-line-gt-LINE_LIMIT
returns-then-line-gt-LINE_LIMIT c =
    rw (line-over c.args.line.now c.if-line-gt-LINE_LIMIT.true) c.no_question.ensures

pub returns-then-end-line : goal.returns-then-end-line
returns-then-end-line c =
    rw (line-alone c.args.line.now c.if-line-gt-LINE_LIMIT.false _ c.first_end-end.ensures (omega (arith, c.if-end-line.true))) c.no_question-then-end-line.ensures

pub returns : goal.returns
returns c =
    rw (line-words c.args.line.now c.if-line-gt-LINE_LIMIT.false _ c.first_end-end.ensures (omega (arith, c.if-end-line.false, c.first_end-end.ensures.within))) c.answer_words.ensures
