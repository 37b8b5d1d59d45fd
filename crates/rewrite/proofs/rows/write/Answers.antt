use mathlib.Core.Path.{refl, sym, ap, subst, ◌∙◌}
use Prim.Native.Nat.{ℕ, ◌+◌, ◌≤◌}
use native.Mathlib.Omega.{arith}
use lib.ListN.{length}
use lib.Seq.{length-sets}
use Rattle.rewrite_meaning.specs.Written.{target}
use Rattle.rewrite.specs.Inner.{item_end, item_octets, row_of}
use Rattle.rewrite.proofs.ItemsWritten.{reach-none, reach-next, reach-grows, up_none, up-stored}
use Rattle.rewrite.proofs.rows.write.Goals as goal

pub loop-k-init : goal.loop-k-init
loop-k-init c =
    let row = row_of c.args.rows.now in
    (reach-none c.args.index row, refl, up_none (target c.args.order c.args.index) c.args.value.now row c.args.out.now)

pub write_item-at-requires : goal.write_item-at-requires
write_item-at-requires c =
    let n = reach-next c.args.index (row_of c.args.rows.now) c.loop-k.k in
    let g = reach-grows c.args.index (row_of c.args.rows.now) (c.loop-k.k + 1) c.args.n (omega arith) in (
      c.requires.0.sized.tails c.loop-k.k (omega arith),
      c.requires.0.inside c.loop-k.k (omega arith),
      subst
          (λ (a : ℕ). item_end c.args.index a (row_of c.args.rows.now c.loop-k.k).kind (row_of c.args.rows.now c.loop-k.k).content ≤ length c.loop-k.out)
          (sym c.loop-k.invariant.0) (omega (arith, c.requires.1, c.loop-k.invariant.1)),
    )

pub loop-k-preserved : goal.loop-k-preserved
loop-k-preserved c =
    let to = target c.args.order c.args.index in (
      c.write_item-at.ensures.0
          ∙ ap (λ (j : ℕ). item_end c.args.index j (row_of c.args.rows.now c.loop-k.k).kind (row_of c.args.rows.now c.loop-k.k).content) c.loop-k.invariant.0
          ∙ sym (reach-next c.args.index (row_of c.args.rows.now) c.loop-k.k),
      ap length c.write_item-at.ensures.1
          ∙ length-sets c.loop-k.out c.loop-k.at (item_octets to c.args.value.now c.loop-k.at (row_of c.args.rows.now c.loop-k.k))
          ∙ c.loop-k.invariant.1,
      up-stored to c.args.value.now c.args.rows.now c.args.n c.requires.0 c.loop-k.k (omega arith) c.args.out.now c.loop-k.out _ c.loop-k.at
          c.loop-k.invariant.0 c.loop-k.invariant.2 c.write_item-at.ensures.1,
    )
