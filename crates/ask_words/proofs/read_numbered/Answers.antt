-- A word, a number, and no word more.
use Rattle.ask_words.proofs.FieldsFound.{numbered-none, word-alone, numbered_more, numbered_is}
use Rattle.ask_words.proofs.read_numbered.Goals as goal

pub returns-in_err-end : goal.returns-in_err-end
returns-in_err-end c =
    rw c.from_residual.ensures
    (numbered-none c.args.line.now _ c.word_at.ensures c.in_err-end.was)

pub returns-in_err-number : goal.returns-in_err-number
returns-in_err-number c =
    rw c.from_residual-in_err-number.ensures
    (word-alone c.args.line.now _ c.word_at.ensures _ c.in_ok-end.was _ c.number_at.ensures c.in_err-number.was)

pub returns-then-next-line : goal.returns-then-next-line
returns-then-next-line c =
    numbered_more c.args.line.now _ c.word_at.ensures _ c.in_ok-end.was _ c.number_at.ensures _ _ c.in_ok-number.was c.if-next-line.true

pub returns : goal.returns
returns c =
    numbered_is c.args.line.now _ c.word_at.ensures _ c.in_ok-end.was _ c.number_at.ensures _ _ c.in_ok-number.was c.if-next-line.false
