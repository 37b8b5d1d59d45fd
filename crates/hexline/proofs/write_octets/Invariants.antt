-- What `write_octets` has written so far, with the octets of the digits that are left, is what it writes in all.
use mathlib.Core.Path.{◌≡◌}
use Prim.Native.Nat.{◌*◌}
use lib.ListN.{drop}
use lib.Seq.{sets}
use Rattle.hexline.specs.Decoding.{line_octets}
use Rattle.hexline.proofs.write_octets.Given as goal

abbrev pub invariant-loop-k : goal.invariant-loop-k
invariant-loop-k l = sets l.out l.k (line_octets (drop (l.k * 2) l.digits)) ≡ sets l.initial.out 0 (line_octets l.digits)
