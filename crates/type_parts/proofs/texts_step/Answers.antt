use mathlib.Core.Path.{sym, ◌∙◌}
use native.Mathlib.Omega.{arith}
use Rattle.choices.proofs.Exits.{exit-error}
use Rattle.choices.proofs.Turns.{left_here, left-more, left_end}
use Rattle.type_counts.specs.Counts.{texts_step}
use Rattle.type_parts.proofs.NextName.{texts-refused, texts-next}
use Rattle.type_parts.proofs.texts_step.Goals as goal

pub returns-in_err-next : goal.returns-in_err-next
returns-in_err-next c =
    let refused = texts-refused c.args.part.now c.args.order c.loop.next _ (sym c.text_step.ensures ∙ c.in_err-next.was) in
    exit-error c.from_residual.ensures.1 ∙ left_here _ _ _ c.loop.invariant (omega arith) _ refused

pub loop-preserved : goal.loop-preserved
loop-preserved c =
    left-more _ _ _ c.loop.invariant (omega arith) _ (texts-next c.args.part.now c.args.order c.loop.next _ (sym c.text_step.ensures ∙ c.in_ok-next.was))

pub returns : goal.returns
unfolding texts_step
returns c = left_end _ _ _ c.loop.invariant (omega arith)
