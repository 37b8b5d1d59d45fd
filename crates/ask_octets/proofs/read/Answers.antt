-- `-` is no octets; any other word is digits, or stands for none.
use mathlib.Core.Path.{sym, ◌∙◌}
use Rattle.ask_octets.proofs.WordsRead.{word-dash, word-empty, word-decoded}
use Rattle.ask_octets.proofs.read.Goals as goal

pub returns-then-same : goal.returns-then-same
returns-then-same c =
    word-dash c.args.word.now _ (sym c.same.ensures ∙ c.if-same.true)

pub returns-then-is_empty : goal.returns-then-is_empty
returns-then-is_empty c =
    word-empty c.args.word.now (sym c.same.ensures ∙ c.if-same.false) _ (sym c.is_empty.ensures ∙ c.if-is_empty.true)

pub returns : goal.returns
returns c =
    rw c.ok.ensures.value
    (word-decoded c.args.word.now (sym c.same.ensures ∙ c.if-same.false) (sym c.is_empty.ensures ∙ c.if-is_empty.false) c.args.octets.now _ _ c.decode_digits.ensures)
