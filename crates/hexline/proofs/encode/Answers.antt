-- Each answer of `encode` is `encoded_of`'s, and the digits are written only where they fit.
use mathlib.Core.Path.{refl, sym}
use native.Mathlib.Omega.{arith}
use Rattle.hexline.proofs.Answers.{no-room-for-digits, digits-fit}
use Rattle.hexline.proofs.encode.Goals as goal

pub returns-then-out-octets : goal.returns-then-out-octets
returns-then-out-octets c = record { answer = sym (no-room-for-digits _ _ (omega arith)); output = refl }

pub returns : goal.returns
returns c = record { answer = sym (digits-fit _ _ (omega arith)); output = c.write_digits.ensures }
