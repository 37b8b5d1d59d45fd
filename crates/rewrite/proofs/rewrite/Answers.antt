-- A reading that is written, or a refusal before it.
use Rattle.value_meaning.specs.Sinks.{source}
use Rattle.rewrite_meaning.specs.Written.{target}
use Rattle.rewrite.proofs.RewriteCases as answers
use Rattle.value_typed.specs.Typed.{typed_by}
use Rattle.rewrite.proofs.rewrite.Goals as goal

pub rewrite_read-requires : goal.rewrite_read-requires
rewrite_read-requires c =
    answers.readable c.args.types.now c.args.torder (source c.args.value.now c.args.order c.args.start) (typed_by c.check-c.result) c.check-c.ensures
    c.in-Ok.is

pub returns-in-Ok : goal.returns-in-Ok
returns-in-Ok c =
    answers.read_under c.args.types.now c.args.torder (source c.args.value.now c.args.order c.args.start) (typed_by c.check-c.result) c.check-c.ensures
    (target c.args.chosen c.args.index) c.args.out.now c.in-Ok.is _ _ c.rewrite_read.ensures

pub returns-in-Err : goal.returns-in-Err
returns-in-Err c =
    answers.refused-before c.args.types.now c.args.torder (source c.args.value.now c.args.order c.args.start) (typed_by c.check-c.result)
    c.check-c.ensures (target c.args.chosen c.args.index) c.args.out.now _ c.in-Err.is
