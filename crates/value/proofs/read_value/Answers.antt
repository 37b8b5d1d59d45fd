-- A reading, or a refusal before it.
use lib.ListN.{length}
use Rattle.value_meaning.specs.Sinks.{source}
use Rattle.value_typed.proofs.TypedCases as typed
use Rattle.value.proofs.AnswerCases as answers
use Rattle.type_list.specs.Arrays.{kinds_met}
use Rattle.value_typed.specs.Typed.{typed_by}
use Rattle.value.proofs.read_value.Goals as goal

pub read_into-requires : goal.read_into-requires
read_into-requires c =
    typed.bounded c.args.types.now c.args.torder (source c.args.value.now c.args.order c.args.start) (kinds_met c.check-c.result.met)
    (typed.under c.args.types.now c.args.torder (length c.args.value.now) (typed_by c.check-c.result) c.check-c.ensures
    c.in-Ok.is)

pub returns-in-Ok : goal.returns-in-Ok
returns-in-Ok c =
    answers.value_read c.args.types.now c.args.torder (source c.args.value.now c.args.order c.args.start) (typed_by c.check-c.result) c.check-c.ensures
    c.args.table.now c.in-Ok.is _ _ c.read_into.ensures

pub returns-in-Err : goal.returns-in-Err
returns-in-Err c =
    answers.value-refused c.args.types.now c.args.torder (source c.args.value.now c.args.order c.args.start) (typed_by c.check-c.result)
    c.check-c.ensures c.args.table.now _ c.in-Err.is
