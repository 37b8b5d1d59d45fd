-- A walk that picks one item.
use mathlib.Core.Path.{ap, ◌∙◌}
use Rattle.value_meaning.specs.Sinks.{source}
use Rattle.value_meaning.specs.Visit.{checked}
use Rattle.value.proofs.WalksLeaveReading as walks
use Rattle.std.specs.Prelude.{Ok}
use Rattle.type_list.specs.Arrays.{kinds_met}
use Rattle.value.proofs.pick.Goals as goal

pub returns-then-c-ne0 : goal.returns-then-c-ne0
returns-then-c-ne0 c =
    walks.picked-refused (checked c.args.types.now (kinds_met c.args.met)) (source c.args.value.now c.args.order c.args.start) c.requires c.args.number _ _
    c.walk-c.ensures c.if-c-ne0.true

pub returns-then-c-number : goal.returns-then-c-number
returns-then-c-number c =
    walks.picked_none (checked c.args.types.now (kinds_met c.args.met)) (source c.args.value.now c.args.order c.args.start) c.requires c.args.number _ _
    c.walk-c.ensures c.if-c-ne0.false c.if-c-number.true

pub returns : goal.returns
returns c =
    ap Ok c.item_of.ensures
    ∙ walks.picked-item (checked c.args.types.now (kinds_met c.args.met)) (source c.args.value.now c.args.order c.args.start) c.requires c.args.number _ _
    c.walk-c.ensures c.if-c-ne0.false c.if-c-number.false
