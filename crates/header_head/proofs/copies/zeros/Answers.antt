-- So many zeros.
use mathlib.Core.Path.{subst}
use Prim.Native.Nat.{ℕ}
use lib.ListN.{replicate}
use Rattle.cdr_pieces.specs.PartPieces.{Holds}
use Rattle.cdr_pieces.proofs.OctetsWritten.{stored-holds}
use Rattle.header_head.proofs.copies.zeros.Goals as goal

pub returns : goal.returns
returns c =
    subst (λ (n : ℕ). Holds c.args.out.now c.args.at (replicate n 0) c.write_zeros.new.out) c.saturating_sub.ensures
    (stored-holds c.args.out.now c.args.at _ _ _ c.write_zeros.ensures)
