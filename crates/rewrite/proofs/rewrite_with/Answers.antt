-- A walk, a count and the octets.
use native.Mathlib.Omega.{arith}
use Rattle.value_meaning.specs.Sinks.{source}
use Rattle.value_meaning.specs.Visit.{checked}
use Rattle.rewrite_meaning.specs.Written.{target}
use Rattle.rewrite.proofs.WalkIsWritten as walks
use Rattle.type_list.specs.Arrays.{kinds_met}
use Rattle.rewrite.proofs.rewrite_with.Goals as goal

pub returns-then-c-ne0 : goal.returns-then-c-ne0
returns-then-c-ne0 c =
    walks.walk_refused (checked c.args.types.now (kinds_met c.args.met)) (source c.args.value.now c.args.order c.args.start)
    (target c.args.chosen c.args.index) (λ k. omega (arith, c.type_inv.value k)) c.requires.0 c.args.table.now c.requires.1 c.walk-c.result _
    c.walk-c.ensures c.args.out.now c.if-c-ne0.true

pub count-n-requires : goal.count-n-requires
count-n-requires c =
    (walks.walk_rows (checked c.args.types.now (kinds_met c.args.met)) (source c.args.value.now c.args.order c.args.start)
    (target c.args.chosen c.args.index) (λ k. omega (arith, c.type_inv.value k)) c.requires.0 c.args.table.now c.requires.1 c.walk-c.result _
    c.walk-c.ensures c.args.out.now c.if-c-ne0.false).sized

pub returns-then-out-n : goal.returns-then-out-n
returns-then-out-n c =
    walks.walk-short (checked c.args.types.now (kinds_met c.args.met)) (source c.args.value.now c.args.order c.args.start)
    (target c.args.chosen c.args.index) (λ k. omega (arith, c.type_inv.value k)) c.requires.0 c.args.table.now c.requires.1 c.walk-c.result _
    c.walk-c.ensures c.args.out.now c.if-c-ne0.false c.count-n.result c.count-n.ensures c.if-out-n.true

pub write-requires : goal.write-requires
write-requires c = (
  walks.walk_rows (checked c.args.types.now (kinds_met c.args.met)) (source c.args.value.now c.args.order c.args.start)
      (target c.args.chosen c.args.index) (λ k. omega (arith, c.type_inv.value k)) c.requires.0 c.args.table.now c.requires.1 c.walk-c.result _
      c.walk-c.ensures c.args.out.now c.if-c-ne0.false,
  omega (arith, c.count-n.ensures, c.if-out-n.false),
)

pub returns : goal.returns
returns c =
    walks.walk-written (checked c.args.types.now (kinds_met c.args.met)) (source c.args.value.now c.args.order c.args.start)
    (target c.args.chosen c.args.index) (λ k. omega (arith, c.type_inv.value k)) c.requires.0 c.args.table.now c.requires.1 c.walk-c.result _
    c.walk-c.ensures c.args.out.now c.if-c-ne0.false c.count-n.result c.count-n.ensures c.if-out-n.false _ c.write.ensures
