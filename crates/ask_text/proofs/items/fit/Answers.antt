-- No items, and some.
use Rattle.ask_text.proofs.ItemsJoined.{text-none, text-some}
use Rattle.ask_text.proofs.items.fit.Goals as goal

pub returns-then-items-lt3 : goal.returns-then-items-lt3
returns-then-items-lt3 c = rw (text-none c.args.items.now c.if-items-lt3.true)

pub returns : goal.returns
returns c = rw (text-some c.args.items.now c.if-items-lt3.false) c.fit_joined.ensures
