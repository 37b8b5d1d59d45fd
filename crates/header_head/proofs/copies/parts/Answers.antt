-- Each part in turn.
use borrow.Author.Rules.{rules}
use mathlib.Core.Path.{sym, ◌∙◌}
use Rattle.header_head.proofs.CopiedParts.{leave-fewer, leave_none, leave-past}
use Rattle.header_head.proofs.copies.parts.Goals as goal

pub returns-in_default : goal.returns-in_default
returns-in_default c =
    leave_none c.args.s.now c.args.order c.args.kind c.args.minor c.args.from c.args.out.now _ _ _ (sym c.part_at.ensures
    ∙ c.in_default.is) c.loop-k.invariant.left

pub loop-k-preserved : goal.loop-k-preserved
loop-k-preserved c = record {
  same_length = search rules;
  left =
      leave-fewer c.args.s.now c.args.order c.args.kind c.args.minor c.args.from c.args.out.now _ _ _ _ (sym c.part_at.ensures ∙ c.in-Some.is)
      c.loop-k.invariant.left _ _ c.part-at.ensures;
}

pub returns : goal.returns
returns c =
    leave-past c.args.s.now c.args.order c.args.kind c.args.minor c.args.from c.args.out.now _ _ _ c.loop-k-test.false c.loop-k.invariant.left
