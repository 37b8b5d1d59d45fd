-- Two walks: one looks, one fills.
use Rattle.value_meaning.specs.Sinks.{source}
use Rattle.value_meaning.specs.Visit.{checked}
use Rattle.value.proofs.WalksLeaveReading as walks
use Rattle.type_list.specs.Arrays.{kinds_met}
use Rattle.value.proofs.read_into.Goals as goal

pub returns-then-c-ne0 : goal.returns-then-c-ne0
returns-then-c-ne0 c =
    walks.found-refusal (checked c.args.types.now (kinds_met c.args.met)) (source c.args.value.now c.args.order c.args.start) c.requires c.args.table.now _ _
    c.walk-c.ensures c.if-c-ne0.true

pub returns : goal.returns
returns c =
    walks.found_none (checked c.args.types.now (kinds_met c.args.met)) (source c.args.value.now c.args.order c.args.start) c.requires c.args.table.now _ _
    c.walk-c.ensures c.if-c-ne0.false _ _ c.walk-d.ensures
