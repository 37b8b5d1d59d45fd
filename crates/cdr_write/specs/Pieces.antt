-- What is written is a fold over pieces, whatever they come from: "smallest gaps, all zero".
--   Piece     a number of so many octets behind a gap, or octets as they are; with the place that a reading took it from and the gap before it
--   Target    the chosen order and index; a gap depends on the index modulo 8 alone, so the index stands here as it is given; `target` the
--             same from its parts
--   wrote     a piece behind what is written: a number behind the smallest gap, all zero, in the chosen order; a run as it is
--   writes    pieces behind what is written, one after the other
--   bare      a piece without its place and the gap before it
use Rattle.std.specs.Prelude.{ℕ, ◌+◌, List, [], ◌∷◌, ◌++◌, length, replicate}
use Rattle.cdr.specs.{Index, Order, gap, octets_of}

pub data Piece : Type 0 where
  number : (gap place size value : ℕ) → Piece
  run : (place : ℕ) (these : List ℕ) → Piece

pub record Target : Type 0 where
  pub order : Order
  pub start : Index

abbrev pub target : Order → Index → Target
target order start = record { order = order; start = start }

unfoldable pub wrote : Target → List ℕ → Piece → List ℕ
wrote to out (number before place size value) = out ++ (replicate (gap (to.start.0 + length out) size) 0 ++ octets_of to.order size value)
wrote to out (run place these) = out ++ these

unfoldable pub writes : Target → List ℕ → List Piece → List ℕ
writes to out [] = out
writes to out (p ∷ ps) = writes to (wrote to out p) ps

abbrev pub bare : Piece → Piece
bare (number before place size value) = number 0 0 size value
bare (run place these) = run 0 these
