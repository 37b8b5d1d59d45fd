-- The part is filled with zeros.
use mathlib.Core.Path.{ap, ◌∙◌}
use Prim.Native.Nat.{ℕ}
use lib.ListN.{replicate, length-replicate}
use Rattle.cdr_write.proofs.BufferHolds.{part-length, put-sets}
use Rattle.cdr_write.proofs.store.zeros.Goals as goal

pub returns : goal.returns
returns c =
    put-sets c.args.out.now _ _ c.args.at _ c.requires (length-replicate c.args.count 0)
    (c.fill.ensures.after (λ y e. e) ∙ ap (λ (n : ℕ). replicate n 0) (part-length c.args.out.now c.args.at c.args.count c.requires))
