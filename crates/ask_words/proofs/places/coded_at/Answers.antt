-- An order, and a word behind it.
use Rattle.ask_words.proofs.WordsLeft.{coded_none, coded-alone, coded-is}
use Rattle.ask_words.proofs.places.coded_at.Goals as goal

pub returns-in_err-order : goal.returns-in_err-order
returns-in_err-order c =
    rw c.from_residual.ensures
    (coded_none c.args.line.now c.args.from _ c.order_at.ensures c.in_err-order.was)

pub returns-in_err-end : goal.returns-in_err-end
returns-in_err-end c =
    rw c.from_residual-in_err-end.ensures
    (coded-alone c.args.line.now c.args.from _ c.order_at.ensures _ _ c.in_ok-order.was _ c.word_at.ensures c.in_err-end.was)

pub returns : goal.returns
returns c =
    coded-is c.args.line.now c.args.from _ c.order_at.ensures _ _ c.in_ok-order.was _ c.word_at.ensures _ c.in_ok-end.was
