-- The digits of octets, written into what is left of a memory.
use Rattle.std.specs.Prelude.{Option}
use mathlib.Core.Path.{◌≡◌, sym, ap, ◌∙◌}
use mathlib.Core.List.{List, [], ◌++◌, append_assoc, append-nil}
use Prim.Native.Nat.{ℕ, ◌+◌, ◌-◌, ◌*◌, ◌≤◌}
use native.Mathlib.Omega.{arith}
use lib.ListN.{length, take, drop, length-drop, drop_of_length-le}
use lib.Seq.{sets, sets-eq, take_all, drop-drop}
use Rattle.hexline.specs.Encoding.{octet_digits, encoded_into, Encodes}
use Rattle.hexline.proofs.OctetsOfDigits.{digits-length}
use Rattle.hexline.proofs.Answers.{digits-fit}

-- a part of the memory, filled from its start
part_filled : (out : List ℕ) (at : ℕ) (xs : List ℕ) → at + length xs ≤ length out
    → take at out ++ (sets (take (length out - at) (drop at out)) 0 xs ++ drop (length out - at) (drop at out)) ≡ sets out at xs
part_filled out at xs h =
    let n : length (drop at out) ≡ length out - at = length-drop at out in
    let w : take (length out - at) (drop at out) ≡ drop at out = take_all (length out - at) (drop at out) (omega arith) in
    let z : drop (length out - at) (drop at out) ≡ [] = drop_of_length-le (drop at out) {i = length out - at} (omega arith) in
    let k : at + (0 + length xs) ≡ at + length xs = omega arith in
    rw (w, z, append-nil (sets (drop at out) 0 xs), sets-eq xs (drop at out) 0 (omega arith), drop-drop (0 + length xs) at out, k)
    (sym (sets-eq xs out at h ∙ append_assoc (take at out) xs (drop (at + length xs) out)))

-- the digits of octets, in a part of the memory that has room for them
digits-stored : (octets part : List ℕ) (r : Option ℕ) (last : List ℕ) → length octets * 2 ≤ length part → Encodes octets part r last
    → last ≡ sets part 0 (octet_digits octets)
digits-stored octets part r last h s =
    s.output ∙ ap (λ (a : Option ℕ). encoded_into a octets part) (s.answer ∙ digits-fit octets (length part) h)

-- and in the memory as a whole
pub digits-behind : (octets out : List ℕ) (at : ℕ) (r : Option ℕ) (last : List ℕ) → at + length octets * 2 ≤ length out
    → Encodes octets (take (length out - at) (drop at out)) r last
    → take at out ++ (last ++ drop (length out - at) (drop at out)) ≡ sets out at (octet_digits octets)
digits-behind octets out at r last h s =
    let n : length (drop at out) ≡ length out - at = length-drop at out in
    let w : length (take (length out - at) (drop at out)) ≡ length out - at = ap length (take_all (length out - at) (drop at out) (omega arith)) ∙ n in
    let d = digits-length octets in
    rw (digits-stored octets (take (length out - at) (drop at out)) r last (omega arith) s) (part_filled out at (octet_digits octets) (omega arith))
