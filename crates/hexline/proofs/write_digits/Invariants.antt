-- What `write_digits` has written so far, with the digits of the octets that are left, is what it writes in all.
use mathlib.Core.Path.{◌≡◌}
use Prim.Native.Nat.{◌*◌}
use lib.ListN.{drop}
use lib.Seq.{sets}
use Rattle.hexline.specs.Encoding.{octet_digits}
use Rattle.hexline.proofs.write_digits.Given as goal

abbrev pub invariant-loop-k : goal.invariant-loop-k
invariant-loop-k l = sets l.out (l.k * 2) (octet_digits (drop l.k l.octets)) ≡ sets l.initial.out 0 (octet_digits l.octets)
