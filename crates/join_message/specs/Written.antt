-- The joined message in a lent output.
--   assembled_of    how many octets the message has; or that they are more than there is room for, or that the first have no header
--   assembled_in    what the output then holds
--   Assembles      both, as the contract says them
use Rattle.std.specs.Prelude.{◌≡◌, List, ◌++◌, cond, ℕ, ltb, length, Result, Ok, Err}
use Rattle.std.proofs.lemmas.List.Edits.{sets}
use Rattle.frame.specs.Header.{header_size}
use Rattle.join_message.specs.Message.{corrected}
use Rattle.join_message.specs.declared.Unassembled.TheVariants.{NoHeader, NoRoom}
use Rattle.join_message.specs.declared.Unassembled.{Unassembled}

unfoldable pub assembled_of : List ℕ → List ℕ → ℕ → Result ℕ Unassembled
assembled_of held body room =
    cond (ltb (length held) header_size) (Err NoHeader)
    (cond (ltb room (length (held ++ body))) (Err NoRoom)
    (Ok (length (held ++ body))))

-- "lent memory that an answer doesn't fill keeps its contents"
abbrev pub assembled_in : Result ℕ Unassembled → List ℕ → List ℕ → List ℕ → List ℕ
assembled_in (Ok n) held body out = sets out 0 (corrected (held ++ body))
assembled_in (Err NoRoom) held body out = out
assembled_in (Err NoHeader) held body out = out

pub record Assembles (held body out : List ℕ) (r : Result ℕ Unassembled) (last : List ℕ) : Type 0 where
  pub answer : r ≡ assembled_of held body (length out)
  pub contents : last ≡ assembled_in r held body out
