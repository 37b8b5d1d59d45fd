-- A comma before another, and an LF after the last.
use borrow.Author.Tests.{lt-ltb, le-ltb}
use Rattle.choices.specs.Branch.{choose}
use Rattle.ask_text.specs.Inner.{behind_at}
use Rattle.ask_text.proofs.items.behind.Goals as goal

pub returns-then-next-count : goal.returns-then-next-count
unfolding behind_at choose
returns-then-next-count c = rw (lt-ltb _ _ c.if-next-count.true)

pub returns-else-next-count : goal.returns-else-next-count
unfolding behind_at choose
returns-else-next-count c = rw (le-ltb _ _ c.if-next-count.false)
