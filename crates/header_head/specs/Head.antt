-- A header written back: "can write back all before it, gaps and reserved octets zero"; v is the message.
--   frame_octets    the frame's octets, as they are
--   header_octets   they, and the header's parts behind them, in the message's order
--   padded         octets, and zeros up to so many
--   head_octets     all before the body: the gap before it is zero too
--   head_written    how many they are, or 76 "output too short"
--   head_in         of an answer about a header
--   head_answer     the answer, with an output of so many octets
--   head_held       what the output then holds
--   head_after      the output of a message: on a refusal it is as it was
use Rattle.std.specs.Prelude.{ℕ, ◌-◌, List, ◌++◌, ltb, length, take, replicate, Result, Ok, Err}
use Rattle.std.proofs.lemmas.List.Edits.{sets}
use Rattle.choices.specs.Branch.{choose}
use Rattle.cdr.specs.declared.Order.{Order}
use Rattle.cdr_fields.specs.Encapsulation.{start}
use Rattle.cdr_write.specs.Pieces.{target, writes}
use Rattle.frame.specs.Header.{header_size}
use Rattle.header_layout.specs.Layout.{layout_of}
use Rattle.header_parts.specs.declared.Refusal.TheVariants.{NoRoom}
use Rattle.header_reading.specs.Reading.{no_fields}
use Rattle.header.specs.Header.{header_start, header_answer}
use Rattle.header_head.specs.HeadPieces.{head_pieces}
use Rattle.header.specs.declared.MessageHeader.TheVariants.{Answered, Called}
use Rattle.header.specs.declared.MessageHeader.{MessageHeader}
use Rattle.header_parts.specs.declared.Refusal.{Refusal}

abbrev pub frame_octets : List ℕ → List ℕ
frame_octets v = take header_size v

unfoldable pub header_octets : List ℕ → ℕ → Order → ℕ → List ℕ
header_octets v kind order minor =
    writes (target order start) (frame_octets v) (head_pieces v order minor (layout_of kind minor) no_fields header_start)

abbrev pub padded : List ℕ → ℕ → List ℕ
padded l n = l ++ replicate (n - length l) 0

abbrev pub head_octets : List ℕ → Result MessageHeader Refusal → List ℕ
head_octets v (Ok (Called q)) = padded (header_octets v 0 q.order q.minor) q.body
head_octets v (Ok (Answered a)) = padded (header_octets v 1 a.order a.minor) a.body
head_octets v (Err r) = frame_octets v

unfoldable pub head_written : ℕ → ℕ → Result ℕ Refusal
head_written room body = choose (ltb room body) (λ _. (Err NoRoom)) (λ _. (Ok body))

abbrev pub head_in : ℕ → Result MessageHeader Refusal → Result ℕ Refusal
head_in room (Ok (Called q)) = head_written room q.body
head_in room (Ok (Answered a)) = head_written room a.body
head_in room (Err r) = Err r

unfoldable pub head_answer : List ℕ → ℕ → Result ℕ Refusal
head_answer v room = head_in room (header_answer v)

abbrev pub head_held : Result ℕ Refusal → List ℕ → List ℕ → List ℕ
head_held (Ok n) octets out = sets out 0 octets
head_held (Err r) octets out = out

unfoldable pub head_after : List ℕ → List ℕ → List ℕ
head_after v out = head_held (head_answer v (length out)) (head_octets v (header_answer v)) out
