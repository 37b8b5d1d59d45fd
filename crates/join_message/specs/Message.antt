-- "The joined message is the first one's octets and each fragment's body after the id, more flag cleared, size corrected."
--   id_end          the octets of the header and the request id
--   body_after_id    a fragment's body after the id
--   more_cleared    flags with the more flag cleared
--   corrected      octets with the more flag cleared, and the size corrected in their own byte order
--   bodies         "each fragment's body after the id", one behind the other
--   parts          "the first one's octets and each fragment's body after the id"
--   joined_of       the joined message of a first one and its fragments
use Rattle.std.specs.Prelude.{ℕ, ◌+◌, ◌-◌, List, [], ◌∷◌, ◌++◌, cond, length, drop, set}
use Rattle.std.proofs.lemmas.List.Edits.{sets}
use Rattle.cdr.specs.Number.{octets_of}
use Rattle.frame.specs.Messages.{id_size}
use Rattle.frame.specs.Header.{flags_offset, size_offset, header_size, more_flag, flags_at, order_at}

abbrev pub id_end : ℕ
id_end = header_size + id_size

abbrev pub body_after_id : List ℕ → List ℕ
body_after_id fragment = drop id_end fragment

abbrev pub more_cleared : ℕ → ℕ
more_cleared flags = cond (more_flag flags) (flags - 2) flags

unfoldable pub corrected : List ℕ → List ℕ
corrected m = sets (set m flags_offset (more_cleared (flags_at m))) size_offset (octets_of (order_at m) 4 (length m - header_size))

unfoldable pub bodies : List (List ℕ) → List ℕ
bodies [] = []
bodies (fragment ∷ rest) = body_after_id fragment ++ bodies rest

abbrev pub parts : List ℕ → List (List ℕ) → List ℕ
parts first fragments = first ++ bodies fragments

abbrev pub joined_of : List ℕ → List (List ℕ) → List ℕ
joined_of first fragments = corrected (parts first fragments)
