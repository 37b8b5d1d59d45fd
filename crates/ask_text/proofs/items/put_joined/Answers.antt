use mathlib.Core.Path.{sym, ap, ◌∙◌}
use Prim.Native.Nat.{◌-◌}
use native.Mathlib.Omega.{arith}
use lib.ListN.{length}
use lib.Seq.{sets}
use Rattle.ask_text.proofs.ItemsJoined.{left-last, left-length, left-put}
use Rattle.ask_text.proofs.items.put_joined.Goals as goal

pub put_item-end-requires : goal.put_item-end-requires
put_item-end-requires c =
    (omega arith, omega (arith, c.requires, c.loop-k.invariant.1, c.loop-k.invariant.2, left-length c.args.items.now c.loop-k.k c.loop-k-test.true))

pub loop-k-preserved : goal.loop-k-preserved
loop-k-preserved c =
    let p = left-put c.args.items.now c.loop-k.k c.loop-k-test.true c.loop-k.out c.loop-k.end c.behind.result c.put_item-end.result c.put_item-end.new.out c.behind.ensures c.put_item-end.ensures in
    (omega arith, c.put_item-end.auto.out ∙ c.loop-k.invariant.1, p.0 ∙ c.loop-k.invariant.2, p.1 ∙ c.loop-k.invariant.3)

pub returns : goal.returns
returns c =
    let z = left-last c.args.items.now c.loop-k.k c.loop-k-test.false in
    record {
      end = omega (arith, c.loop-k.invariant.2, ap length z);
      contents = sym (ap (sets c.loop-k.out c.loop-k.end) z) ∙ c.loop-k.invariant.3;
    }
