-- A turn leads on, or decides; then none is left.
use mathlib.Core.Path.{sym, ◌∙◌}
use native.Mathlib.Omega.{arith}
use Rattle.cdr_fields.proofs.TaggedWithin.{skip-few, skip-next, skip-end}
use Rattle.cdr_fields.proofs.skip_tagged.Goals as goal

pub returns-in_err-behind : goal.returns-in_err-behind
returns-in_err-behind c =
    c.from_residual.ensures
    ∙ sym (skip-few c.args.s.now c.args.order c.args.count c.loop.counter c.loop.next (omega arith) (sym c.tagged_at.ensures ∙ c.in_err-behind.was))
    ∙ c.loop.invariant

pub loop-preserved : goal.loop-preserved
loop-preserved c =
    sym (skip-next c.args.s.now c.args.order c.args.count c.loop.counter c.loop.next (omega arith) _ _ _ (sym c.tagged_at.ensures ∙ c.in_ok-behind.was))
    ∙ c.loop.invariant

pub returns : goal.returns
returns c =
    sym (skip-end c.args.s.now c.args.order c.args.count c.loop.counter c.loop.next (omega arith)) ∙ c.loop.invariant
