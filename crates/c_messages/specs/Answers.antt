-- What the C interface leaves in the numbers that it is lent: they are filled where something is written or said, and kept by a refusal.
--   decoded_count     the octets that decoding wrote
--   encoded_count     the digits that encoding wrote
--   header_after      the seven numbers of an accepted header
--   DecodesC         what a call of each function ensures, the number that it returns and all that was lent after it: of a decoding,
--   EncodesC         of an encoding,
--   JudgesC          and of a header
use Rattle.std.specs.Prelude.{◌≡◌, List, ℕ, length, Option, Some, None, Result, Ok, Err}
use Rattle.hexline.specs.Decoding.{decoded_of, decoded_into, decoded_number}
use Rattle.hexline.specs.Encoding.{encoded_of, encoded_into, encoded_number}
use Rattle.frame.specs.Frames.{frame_of, frame_number, header_numbers}
use Rattle.frame.specs.declared.Header.{Header}
use Rattle.frame.specs.declared.Refusal.{Refusal}
use Rattle.hexline.specs.declared.Undecoded.TheVariants.{NoRoom, NotDigits, TooLong}
use Rattle.hexline.specs.declared.Undecoded.{Undecoded}

abbrev pub decoded_count : Result ℕ Undecoded → ℕ → ℕ
decoded_count (Ok n) before = n
decoded_count (Err TooLong) before = before
decoded_count (Err NotDigits) before = before
decoded_count (Err NoRoom) before = before

abbrev pub encoded_count : Option ℕ → ℕ → ℕ
encoded_count (Some n) before = n
encoded_count None before = before

abbrev pub header_after : Result Header Refusal → List ℕ → List ℕ
header_after (Ok h) before = header_numbers h
header_after (Err r) before = before

pub record DecodesC (line out : List ℕ) (count r : ℕ) (out_after : List ℕ) (count_after : ℕ) : Type 0 where
  pub number : r ≡ decoded_number (decoded_of line (length out))
  pub output : out_after ≡ decoded_into (decoded_of line (length out)) line out
  pub counted : count_after ≡ decoded_count (decoded_of line (length out)) count

pub record EncodesC (octets out : List ℕ) (count r : ℕ) (out_after : List ℕ) (count_after : ℕ) : Type 0 where
  pub number : r ≡ encoded_number (encoded_of octets (length out))
  pub output : out_after ≡ encoded_into (encoded_of octets (length out)) octets out
  pub counted : count_after ≡ encoded_count (encoded_of octets (length out)) count

pub record JudgesC (octets header : List ℕ) (r : ℕ) (header_last : List ℕ) : Type 0 where
  pub number : r ≡ frame_number (frame_of octets)
  pub values : header_last ≡ header_after (frame_of octets) header
