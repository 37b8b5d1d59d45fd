-- No items, and some.
use Rattle.ask_text.proofs.ItemsJoined.{text-none, text-some}
use Rattle.ask_text.proofs.items.put.Goals as goal

pub put_none-requires : goal.put_none-requires
put_none-requires c =
    rw (text-none c.args.items.now c.if-items-lt3.true) at c.requires

pub returns-then-items-lt3 : goal.returns-then-items-lt3
returns-then-items-lt3 c =
    rw (text-none c.args.items.now c.if-items-lt3.true) c.put_none.ensures

pub put_joined-requires : goal.put_joined-requires
put_joined-requires c =
    rw (text-some c.args.items.now c.if-items-lt3.false) at c.requires

pub returns : goal.returns
returns c =
    rw (text-some c.args.items.now c.if-items-lt3.false) c.put_joined.ensures
