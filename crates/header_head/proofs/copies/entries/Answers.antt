-- Each of them in turn.
use borrow.Author.Rules.{rules}
use Rattle.header_head.proofs.CopiedPieces.{leaves-fewer, leaves_none}
use Rattle.header_head.proofs.copies.entries.Goals as goal

pub loop-preserved : goal.loop-preserved
loop-preserved c = record {
  same_length = search rules;
  left =
      leaves-fewer c.args.s.now c.args.order c.args.count c.args.from c.args.out.now _ _ _ c.loop-test.true c.loop.invariant.left _ _ c.tagged-at.ensures;
}

pub returns : goal.returns
returns c =
    leaves_none c.args.s.now c.args.order c.args.count c.args.from c.args.out.now _ _ _ c.loop-test.false c.loop.invariant.left
