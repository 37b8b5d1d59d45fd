-- Each part in turn.
use mathlib.Core.Path.{◌≡◌}
use lib.ListN.{length}
use Rattle.header_head.proofs.CopiedParts.{PartsLeave}
use Rattle.header_head.proofs.copies.parts.Given as goal

abbrev pub invariant-loop-k : goal.invariant-loop-k
invariant-loop-k l = record {
  same_length : length l.out ≡ length l.initial.out;
  left : PartsLeave l.s l.order l.kind l.minor l.from l.initial.out l.k l.at l.out;
}
