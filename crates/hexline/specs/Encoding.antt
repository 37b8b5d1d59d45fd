-- Octets as upper-case digits.
--   octet_digits    the digits of octets
--   encoded_of      what encoding octets gives, by the room for their digits
--   encoded_into    what the output then holds
--   encoded_number  the number of each answer, 0 where the digits are written
--   Encodes        what a call ensures: the answer, and the output after it
use Rattle.std.specs.Prelude.{ℕ, ◌*◌, ◌/◌, ◌%◌, ◌≡◌, cond, List, [], ◌∷◌, ltb, length, Option, Some, None}
use Rattle.std.proofs.lemmas.List.Edits.{sets}
use Rattle.hexline.specs.Digit.{upper_digit}

-- two digits an octet, the more significant first
unfoldable pub octet_digits : List ℕ → List ℕ
octet_digits [] = []
octet_digits (x ∷ xs) = upper_digit (x / 16) ∷ upper_digit (x % 16) ∷ octet_digits xs

unfoldable pub encoded_of : List ℕ → ℕ → Option ℕ
encoded_of octets room = cond (ltb room (length octets * 2)) None (Some (length octets * 2))

-- a refusal writes nothing
abbrev pub encoded_into : Option ℕ → List ℕ → List ℕ → List ℕ
encoded_into (Some n) octets out = sets out 0 (octet_digits octets)
encoded_into None octets out = out

abbrev pub encoded_number : Option ℕ → ℕ
encoded_number (Some n) = 0
-- our choice of number: 01's for an output that is too short
encoded_number None = 27

pub record Encodes (octets out : List ℕ) (r : Option ℕ) (after : List ℕ) : Type 0 where
  pub answer : r ≡ encoded_of octets (length out)
  pub output : after ≡ encoded_into r octets out
