use mathlib.Core.Path.{sym, ◌∙◌}
use Rattle.choices.proofs.Turns.{left_here, left-more, left_end}
use Rattle.type_unions.specs.Arms.{first_sought}
use Rattle.type_kinds.specs.Members.{members_from}
use Rattle.type_unions.proofs.Chosen.{sought-cut, sought-here, sought-on}
use Rattle.type_unions.proofs.arms.first_sought.Goals as goal

pub returns-in_err-inner : goal.returns-in_err-inner
returns-in_err-inner c =
    c.from_residual.ensures
    ∙ left_here _ _ _ c.loop-k.invariant c.loop-k-test.true _
    (sought-cut c.args.sought c.args.labels c.args.types.now c.args.fields.start c.args.fields.order c.loop-k.k c.loop-k.at
    (sym c.member_at.ensures ∙ c.in_err-inner.was))

pub returns-then-is_sought : goal.returns-then-is_sought
returns-then-is_sought c =
    left_here _ _ _ c.loop-k.invariant c.loop-k-test.true _
    (sought-here c.args.sought c.args.labels c.args.types.now c.args.fields.start c.args.fields.order c.loop-k.k c.loop-k.at _ _
    (sym c.member_at.ensures ∙ c.in_ok-inner.was)
    (sym c.is_sought.ensures ∙ c.if-is_sought.true))

pub loop-k-preserved : goal.loop-k-preserved
loop-k-preserved c =
    left-more _ _ _ c.loop-k.invariant c.loop-k-test.true _
    (sought-on c.args.sought c.args.labels c.args.types.now c.args.fields.start c.args.fields.order c.loop-k.k c.loop-k.at _ _
    (sym c.member_at.ensures ∙ c.in_ok-inner.was)
    (sym c.is_sought.ensures ∙ c.if-is_sought.false))

pub returns : goal.returns
unfolding first_sought members_from
returns c = left_end _ _ _ c.loop-k.invariant c.loop-k-test.false
