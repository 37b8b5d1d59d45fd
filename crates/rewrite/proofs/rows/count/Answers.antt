use mathlib.Core.Path.{sym, ap, ◌∙◌}
use Prim.Native.Nat.{ℕ}
use native.Mathlib.Omega.{arith}
use Rattle.rewrite.specs.Inner.{item_end, row_of}
use Rattle.rewrite.proofs.ItemsWritten.{reach-none, reach-next, reach-small}
use Rattle.rewrite.proofs.rows.count.Goals as goal

pub loop-k-init : goal.loop-k-init
loop-k-init c = reach-none c.args.index (row_of c.args.rows.now)

pub item_end-at-requires : goal.item_end-at-requires
item_end-at-requires c =
    let b = reach-small c.args.index c.args.rows.now c.args.n c.requires c.loop-k.k (omega arith) in
    (omega (arith, c.requires.few), c.requires.tails c.loop-k.k (omega arith))

pub loop-k-preserved : goal.loop-k-preserved
loop-k-preserved c =
    c.item_end-at.ensures
    ∙ ap (λ (j : ℕ). item_end c.args.index j (row_of c.args.rows.now c.loop-k.k).kind (row_of c.args.rows.now c.loop-k.k).content) c.loop-k.invariant
    ∙ sym (reach-next c.args.index (row_of c.args.rows.now) c.loop-k.k)
