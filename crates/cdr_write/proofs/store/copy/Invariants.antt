-- What is left to store gives the same in the end.
use mathlib.Core.Path.{◌≡◌}
use Prim.Native.Nat.{◌+◌}
use lib.ListN.{length, drop}
use lib.Seq.{sets}
use Rattle.cdr_write.proofs.store.copy.Given as goal

abbrev pub invariant-loop-k : goal.invariant-loop-k
invariant-loop-k l = (length l.out ≡ length l.initial.out) × (sets l.out (l.at + l.k) (drop l.k l.octets) ≡ sets l.initial.out l.at l.octets)
