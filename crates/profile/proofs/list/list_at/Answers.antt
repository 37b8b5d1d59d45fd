-- By the minor version; in 1.0 the key ends the body.
use mathlib.Core.Path.{sym, ◌∙◌}
use Rattle.profile.proofs.StageAnswers.{list-from-1, list-after-key, list-none}
use Rattle.profile.proofs.list.list_at.Goals as goal

pub returns-then-has_components : goal.returns-then-has_components
returns-then-has_components c =
    c.counted.ensures ∙ sym (list-from-1 c.args.s.now c.args.order c.args.at c.args.minor (sym c.has_components.ensures ∙ c.if-has_components.true))

pub returns-then-at-s : goal.returns-then-at-s
returns-then-at-s c =
    sym (list-after-key c.args.s.now c.args.order c.args.at c.args.minor (sym c.has_components.ensures ∙ c.if-has_components.false) c.if-at-s.true)

pub returns : goal.returns
returns c =
    sym (list-none c.args.s.now c.args.order c.args.at c.args.minor (sym c.has_components.ensures ∙ c.if-has_components.false) c.if-at-s.false)
