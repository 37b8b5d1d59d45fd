-- The text of octets: how long it is, and its digits put into what is left of a memory; and a number put where there is room for it.
use Rattle.std.specs.Prelude.{Option}
use Rattle.std.specs.Option.{unwrap_or}
use mathlib.Core.Path.{◌≡◌, refl, ap, ◌∙◌}
use mathlib.Core.Bool.{false, true≢false}
use mathlib.Core.List.{List, [], ◌∷◌, ◌++◌}
use Prim.Native.Nat.{ℕ, ◌+◌, ◌-◌, ◌*◌, ◌≤◌}
use native.Mathlib.Omega.{arith}
use lib.Dec.{eqb}
use lib.ListN.{length, take, drop, length-append}
use Rattle.decimals.specs.Puts.{Put}
use Rattle.decimals.proofs.CharactersPut.{put-stored, number-most}
use Rattle.cdr_write.specs.Write.{Stored}
use Rattle.cdr_write.proofs.BufferHolds.{stored-upto}
use Rattle.hexline.specs.Encoding.{octet_digits, Encodes}
use Rattle.hexline.proofs.OctetsOfDigits.{digits-length}
use Rattle.hexline.proofs.DigitsPut.{digits-behind}
use Rattle.ask_text.specs.Items.{hyphen}
use Rattle.ask_text.specs.Replies.{octets_text}

-- the text of octets
pub octets-some : (xs : List ℕ) (b : ℕ) → (eqb (length xs) 0 ≡ false) → octets_text xs b ≡ octet_digits xs ++ (b ∷ [])
octets-some [] b e = absurd (true≢false e)
octets-some (x ∷ xs) b e = refl

digits-and : (xs : List ℕ) (b : ℕ) → length (octet_digits xs ++ (b ∷ [])) ≡ length xs * 2 + 1
digits-and xs b = rw length-append (omega (arith, digits-length xs))

-- how long it is
pub some-length : (xs : List ℕ) (b : ℕ) → (eqb (length xs) 0 ≡ false) → length (octets_text xs b) ≡ length xs * 2 + 1
some-length xs b e = ap length (octets-some xs b e) ∙ digits-and xs b

pub octets-most : (xs : List ℕ) (b : ℕ) → length (octets_text xs b) ≤ length xs * 2 + 2
octets-most [] b = omega arith
octets-most (x ∷ xs) b = omega (arith, digits-and (x ∷ xs) b)

-- the digits in what is left of the memory, and where they fit
module _ (octets out : List ℕ) (at b : ℕ) (n : eqb (length octets) 0 ≡ false) (h : at + length (octets_text octets b) ≤ length out) where
  pub digits-fit : at + length octets * 2 + 1 ≤ length out
  digits-fit = omega (arith, some-length octets b n)

  pub digits-put : (r : Option ℕ) (last : List ℕ) → Encodes octets (take (length out - at) (drop at out)) r last
      → Put out at (octet_digits octets) (at + length octets * 2) (take at out ++ (last ++ drop (length out - at) (drop at out)))
  digits-put r last s =
      let k = digits-fit in
      record { end = omega (arith, digits-length octets); contents = digits-behind octets out at r last (omega arith) s }

-- a number is put where there is room for it, and it is told where it ends
pub put-told : (out : List ℕ) (at : ℕ) (xs : List ℕ) (r : Option ℕ) (last : List ℕ) → at + length xs ≤ length out → Stored out at xs r last
    → Put out at xs (unwrap_or r at) last
put-told out at xs r last h s = rw (stored-upto out at xs r last h s) (put-stored out at xs r last h s)

-- no number needs more
pub ruleset number_room = number-most
