-- Digits, lines of the archive, and their octets.
--   line_limit      the most characters of a line
--   all_digits      whether each character is a digit
--   octet_of        the octet of two digits
--   line_octets     the octets of digits
--   digits_decoded  what decoding digits gives, however many, by the room for their octets
--   decoded_of      what decoding a line gives, by the room for its octets
--   decoded_into    what the output then holds
--   decoded_number  the number of each answer, 0 where the octets are written
--   Decodes        what a call ensures: the answer, by one of the two definitions, and the output after it
use Rattle.std.specs.Prelude.{ℕ, ◌+◌, ◌*◌, ◌/◌, ◌%◌, ◌≡◌, Bool, true, cond, not, ◌&&◌, ◌||◌, List, [], ◌∷◌, ltb, eqb, length, Result, Ok, Err}
use Rattle.std.proofs.lemmas.List.Edits.{sets}
use Rattle.hexline.specs.Digit.{is_digit, digit_value}
use Rattle.hexline.specs.declared.Undecoded.TheVariants.{NoRoom, NotDigits, TooLong}
use Rattle.hexline.specs.declared.Undecoded.{Undecoded}

-- "A line has at most 8,192 digits of either case"
abbrev pub line_limit : ℕ
line_limit = 8192

unfoldable pub all_digits : List ℕ → Bool
all_digits [] = true
all_digits (c ∷ cs) = is_digit c && all_digits cs

-- the first digit is the more significant
unfoldable pub octet_of : ℕ → ℕ → ℕ
octet_of c d = digit_value c * 16 + digit_value d

-- two digits an octet
unfoldable pub line_octets : List ℕ → List ℕ
line_octets [] = []
line_octets (c ∷ []) = []
line_octets (c ∷ d ∷ cs) = octet_of c d ∷ line_octets cs

unfoldable pub digits_decoded : List ℕ → ℕ → Result ℕ Undecoded
digits_decoded digits room =
    -- "odd digit count, or a character that is no digit"
    cond (eqb (length digits % 2) 1 || not (all_digits digits)) (Err NotDigits)
    (cond (ltb room (length digits / 2)) (Err NoRoom)
    (Ok (length digits / 2)))

-- "line over 8,192 characters", whatever they are
unfoldable pub decoded_of : List ℕ → ℕ → Result ℕ Undecoded
decoded_of line room = cond (ltb line_limit (length line)) (Err TooLong) (digits_decoded line room)

-- a refusal writes nothing, and "lent memory that an answer doesn't fill keeps its contents":
-- `sets` is a run of stores, these octets from that place on, the rest as it was
abbrev pub decoded_into : Result ℕ Undecoded → List ℕ → List ℕ → List ℕ
decoded_into (Ok n) line out = sets out 0 (line_octets line)
decoded_into (Err refusal) line out = out

abbrev pub decoded_number : Result ℕ Undecoded → ℕ
decoded_number (Ok n) = 0
decoded_number (Err TooLong) = 10
decoded_number (Err NotDigits) = 11
-- our choice of number: 01's for an output that is too short
decoded_number (Err NoRoom) = 27

pub record Decodes (answer_of : List ℕ → ℕ → Result ℕ Undecoded) (line out : List ℕ) (r : Result ℕ Undecoded) (after : List ℕ) : Type 0 where
  pub answer : r ≡ answer_of line (length out)
  pub output : after ≡ decoded_into r line out
