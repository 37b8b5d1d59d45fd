-- The index behind the others, then what stands there.
use mathlib.Core.Path.{sym, ◌∙◌}
use Rattle.cdr_fields.proofs.TaggedWithin.{behind-is}
use Rattle.cdr_fields.proofs.tagged_behind.Goals as goal

pub returns-in_err-at : goal.returns-in_err-at
returns-in_err-at c =
    c.from_residual.ensures ∙ sym (behind-is c.args.s.now c.args.order c.args.first c.args.number _ (sym c.skip_tagged.ensures ∙ c.in_err-at.was))

pub returns : goal.returns
returns c =
    c.tagged_at.ensures ∙ sym (behind-is c.args.s.now c.args.order c.args.first c.args.number _ (sym c.skip_tagged.ensures ∙ c.in_ok-at.was))
