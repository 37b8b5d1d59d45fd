-- Past the line there is no word, and in it the first of what is left.
use Rattle.ask_words.proofs.WordsLeft.{word_none, word-there}
use Rattle.ask_words.proofs.places.word_at.Goals as goal

pub returns-then-line-from : goal.returns-then-line-from
returns-then-line-from c =
    word_none c.args.line.now c.args.from c.if-line-from.true

pub returns : goal.returns
returns c =
    word-there c.args.line.now c.args.from c.if-line-from.false _ c.first_end.ensures
