use mathlib.Core.Path.{sym, ap}
use Prim.Native.Nat.{◌-◌}
use native.Mathlib.Omega.{arith}
use lib.ListN.{length}
use borrow.Author.Tests.{le-leb, lt-leb}
use Rattle.ask_text.specs.Items.{items_of, joined}
use Rattle.ask_text.proofs.ItemsJoined.{left-last, left-length}
use Rattle.ask_text.proofs.items.fit_joined.Goals as goal

pub returns-then-left-n : goal.returns-then-left-n
returns-then-left-n c =
    sym (lt-leb (length (joined (items_of c.args.items.now))) c.args.room (omega (arith, c.loop-k.invariant.1, c.item_length-n.ensures, left-length c.args.items.now c.loop-k.k c.loop-k-test.true)))

pub loop-k-preserved : goal.loop-k-preserved
loop-k-preserved c =
    (omega arith, omega (arith, c.loop-k.invariant.1, c.item_length-n.ensures, left-length c.args.items.now c.loop-k.k c.loop-k-test.true))

pub returns : goal.returns
returns c =
    let z = left-last c.args.items.now c.loop-k.k c.loop-k-test.false in sym (le-leb (length (joined (items_of c.args.items.now))) c.args.room (omega (arith, c.loop-k.invariant.1, ap length z)))
