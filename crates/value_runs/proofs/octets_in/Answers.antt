use Rattle.std.proofs.Common.{arith, refl, rules, ◌-◌}
use Rattle.value_runs.proofs.RowsAtOnce.{filling-more, filling-all}
use Rattle.value_runs.proofs.octets_in.Goals as goal

pub loop-k-preserved : goal.loop-k-preserved
loop-k-preserved c =
    filling-more c.args.value.now c.args.kind c.args.n c.args.cursor c.args.table.now c.loop-k.k c.loop-k.last _ c.loop-k.table _ c.loop-k.invariant (c.requires)
    (search rules) (omega arith) c.from-last.ensures c.store.ensures

pub returns : goal.returns
returns c =
    filling-all c.args.value.now c.args.kind c.args.n c.args.cursor c.args.table.now c.loop-k.k c.loop-k.last _ c.loop-k.table
    c.loop-k.invariant (omega arith) refl
