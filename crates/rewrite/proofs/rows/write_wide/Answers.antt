-- A gap, a number and octets as they are.
use mathlib.Core.Path.{◌≡◌, ◌∙◌}
use native.Mathlib.Omega.{arith}
use Rattle.rewrite_meaning.specs.Written.{target}
use Rattle.rewrite.proofs.ItemsWritten as items
use Rattle.rewrite.proofs.rows.write_wide.Goals as goal

pub returns-then-n-eq0 : goal.returns-then-n-eq0
returns-then-n-eq0 c =
    let to = target c.args.order c.args.index in (
      let e : c.tail_of-n.result ≡ 0 = c.if-n-eq0.true in
          let z = items.item-ends to c.args.value.now c.args.out.now c.args.at c.args.kind c.args.place c.args.content c.width_of-size.result
          c.behind_gap-p.result c.head_of.result c.width_of-size.ensures c.behind_gap-p.ensures c.head_of.ensures c.octets.result c.tail_of-n.result
          c.octets.ensures c.tail_of-n.ensures in
          omega arith,
      items.item-written to c.args.value.now c.args.out.now c.args.at c.args.kind c.args.place c.args.content c.width_of-size.result c.behind_gap-p.result
          c.head_of.result c.width_of-size.ensures c.behind_gap-p.ensures c.head_of.ensures c.requires.2 c.tail_of-n.result c.octets.result
          c.tail_of-n.ensures c.octets.ensures _ _ _ _ _ c.write_zeros.ensures c.write_number.ensures (items.no-tail _ _ _ _ c.if-n-eq0.true),
    )

pub returns : goal.returns
returns c =
    let to = target c.args.order c.args.index in (
      items.item-ends to c.args.value.now c.args.out.now c.args.at c.args.kind c.args.place c.args.content c.width_of-size.result c.behind_gap-p.result
          c.head_of.result c.width_of-size.ensures c.behind_gap-p.ensures c.head_of.ensures c.octets.result c.tail_of-n.result c.octets.ensures
          c.tail_of-n.ensures,
      items.item-written to c.args.value.now c.args.out.now c.args.at c.args.kind c.args.place c.args.content c.width_of-size.result c.behind_gap-p.result
          c.head_of.result c.width_of-size.ensures c.behind_gap-p.ensures c.head_of.ensures c.requires.2 c.tail_of-n.result c.octets.result
          c.tail_of-n.ensures c.octets.ensures _ _ _ _ _ c.write_zeros.ensures c.write_number.ensures
          (items.tail_written to c.args.value.now c.args.out.now c.args.at c.args.kind c.args.place c.args.content c.width_of-size.result c.behind_gap-p.result
          c.head_of.result c.width_of-size.ensures c.behind_gap-p.ensures c.head_of.ensures c.requires.2 c.requires.1 c.tail_of-n.result c.octets.result
          c.tail_of-n.ensures c.octets.ensures _ _ _ (c.write_number.auto.out ∙ c.write_zeros.auto.out) c.write_octets.ensures),
    )
