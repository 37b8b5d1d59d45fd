-- A reading, or a refusal before it.
use mathlib.Core.Path.{◌∙◌}
use lib.ListN.{length}
use Rattle.value_meaning.specs.Sinks.{source}
use Rattle.choices.proofs.Exits.{exit-error}
use Rattle.value_typed.proofs.TypedCases as typed
use Rattle.value.proofs.AnswerCases as answers
use Rattle.type_list.specs.Arrays.{kinds_met}
use Rattle.value_typed.specs.Typed.{typed_by}
use Rattle.value.proofs.read_item.Goals as goal

pub pick-requires : goal.pick-requires
pick-requires c =
    typed.bounded c.args.types.now c.args.torder (source c.args.value.now c.args.order c.args.start) (kinds_met c.check-c.result.met)
    (typed.under c.args.types.now c.args.torder (length c.args.value.now) (typed_by c.check-c.result) c.check-c.ensures c.in_ok-c.was)

pub returns : goal.returns
returns c =
    c.pick.ensures
    ∙ answers.item-read c.args.types.now c.args.torder (source c.args.value.now c.args.order c.args.start) (typed_by c.check-c.result)
    c.check-c.ensures c.args.number c.in_ok-c.was

pub returns-in_err-c : goal.returns-in_err-c
returns-in_err-c c =
    exit-error c.from_residual.ensures.1
    ∙ answers.item_refused c.args.types.now c.args.torder (source c.args.value.now c.args.order c.args.start) (typed_by c.check-c.result)
    c.check-c.ensures c.args.number _ c.in_err-c.was
