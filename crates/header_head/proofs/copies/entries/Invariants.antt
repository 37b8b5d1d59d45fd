-- Each of them in turn.
use mathlib.Core.Path.{◌≡◌}
use lib.ListN.{length}
use Rattle.header_head.proofs.CopiedPieces.{Leaves}
use Rattle.header_head.proofs.copies.entries.Given as goal

abbrev pub invariant-loop : goal.invariant-loop
invariant-loop l = record {
  same_length : length l.out ≡ length l.initial.out;
  left : Leaves l.s l.order l.count l.from l.initial.out l.counter l.at l.out;
}
