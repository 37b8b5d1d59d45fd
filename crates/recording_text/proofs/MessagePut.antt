-- The digits of a message, put into what is left of the memory.
use Rattle.std.specs.Prelude.{Option}
use Rattle.std.proofs.Common.{ℕ, ◌+◌, ◌-◌, ◌*◌, ◌≤◌, List, ◌++◌, length, take, drop, arith}
use Rattle.decimals.specs.Puts.{Put}
use Rattle.hexline.specs.Encoding.{octet_digits, Encodes}
use Rattle.hexline.proofs.OctetsOfDigits.{digits-length}
use Rattle.hexline.proofs.DigitsPut.{digits-behind}

pub message-put : (octets out : List ℕ) (at : ℕ) (r : Option ℕ) (last : List ℕ) → at + length octets * 2 ≤ length out
    → Encodes octets (take (length out - at) (drop at out)) r last
    → Put out at (octet_digits octets) (at + length octets * 2) (take at out ++ (last ++ drop (length out - at) (drop at out)))
message-put octets out at r last h s = record { end = omega (arith, digits-length octets); contents = digits-behind octets out at r last h s }
