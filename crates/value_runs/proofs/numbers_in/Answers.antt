use Rattle.std.proofs.Common.{arith, length, refl, rules, ◌-◌, ◌<◌, ◌^◌}
use Rattle.value_runs.proofs.RowsAtOnce.{storing-more, storing-all}
use Rattle.value_runs.proofs.numbers_in.Goals as goal

pub loop-k-preserved : goal.loop-k-preserved
loop-k-preserved c =
    let short : length c.args.table.now < 2 ^ 64
    = search rules in
    storing-more c.args.mode c.args.value.now c.args.kind c.args.size c.args.n c.args.p c.args.cursor c.requires.0 c.args.table.now c.requires.1 c.loop-k.k c.loop-k.last
    c.octets-w.result _ c.value_at-last.result c.content_of.result c.loop-k.table _ c.loop-k.invariant short (omega arith) c.octets-w.ensures
    refl c.value_at-last.ensures c.content_of.ensures c.store.ensures

pub returns : goal.returns
returns c =
    storing-all c.args.mode c.args.value.now c.args.kind c.args.size c.args.n c.args.p c.args.cursor c.requires.0 c.args.table.now c.requires.1 c.loop-k.k c.loop-k.last
    c.octets-w.result _ c.loop-k.table c.loop-k.invariant (omega arith) c.octets-w.ensures
    refl
