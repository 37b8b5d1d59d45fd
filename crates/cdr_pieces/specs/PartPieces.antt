-- The pieces that numbers, counted octets and lists of tagged octets are written as, and their octets from an index on, whatever stands before it.
--   number_piece         a number of so many octets
--   run_piece            octets as they are
--   counted_pieces       octets behind their count; of a text its final zero is among them
--   tagged_pieces        a tag, then octets behind their count
--   on_tagged_pieces      what is written of tagged octets that stand there
--   list_pieces          so many tagged octets, as they stand in v from an index on
--   tagged_list_pieces    a list of them behind its count
--   piece_octets         the octets of a piece from an index on: a number's behind the smallest gap, all zero
--   octets_from          the octets of pieces, one after the other, from an index on
--   Holds               what an output holds behind a writer of octets, if there is room for them
--   Fills               the same of a writer of pieces
use Rattle.std.specs.Prelude.{ℕ, zero, suc, ◌+◌, ◌≤◌, ◌≡◌, List, [], ◌∷◌, ◌++◌, length, replicate, Option, Some, None}
use Rattle.std.proofs.lemmas.List.Edits.{sets}
use Rattle.cdr.specs.declared.Index.{Index}
use Rattle.cdr.specs.declared.Order.{Order}
use Rattle.cdr.specs.Align.{gap}
use Rattle.cdr.specs.Number.{octets_of}
use Rattle.cdr_fields.specs.declared.Extent.{Extent}
use Rattle.cdr_fields.specs.declared.TaggedList.{TaggedList}
use Rattle.cdr_fields.specs.Extents.{extent_octets}
use Rattle.cdr_fields.specs.Tagged.{tagged_at}
use Rattle.cdr_write.specs.Pieces.{Piece, number, run, Target}

abbrev pub number_piece : ℕ → ℕ → Piece
number_piece n x = number 0 0 n x

abbrev pub run_piece : List ℕ → Piece
run_piece these = run 0 these

abbrev pub counted_pieces : List ℕ → List Piece
counted_pieces these = number_piece 4 (length these) ∷ run_piece these ∷ []

abbrev pub tagged_pieces : ℕ → List ℕ → List Piece
tagged_pieces tag these = number_piece 4 tag ∷ counted_pieces these

abbrev pub on_tagged_pieces : Option (ℕ × Extent × Index) → (ℕ → Extent → Index → List Piece) → List Piece
on_tagged_pieces (Some (tag, octets, next)) f = f tag octets next
on_tagged_pieces None f = []

unfoldable pub list_pieces : List ℕ → Order → ℕ → Index → List Piece
list_pieces v order zero i = []
list_pieces v order (suc n) i =
    on_tagged_pieces (tagged_at v i order) (λ tag octets next. tagged_pieces tag (extent_octets v octets) ++ list_pieces v order n next)

abbrev pub tagged_list_pieces : List ℕ → Order → TaggedList → List Piece
tagged_list_pieces v order list = number_piece 4 list.count ∷ list_pieces v order list.count list.first

unfoldable pub piece_octets : Target → ℕ → Piece → List ℕ
piece_octets to at (number before place size value) = replicate (gap (to.start.0 + at) size) 0 ++ octets_of to.order size value
piece_octets to at (run place these) = these

unfoldable pub octets_from : Target → ℕ → List Piece → List ℕ
octets_from to at [] = []
octets_from to at (p ∷ ps) = piece_octets to at p ++ octets_from to (at + length (piece_octets to at p)) ps

pub record Holds (out : List ℕ) (at : ℕ) (xs last : List ℕ) : Type 0 where
  pub size : length last ≡ length out
  pub holds : at + length xs ≤ length out → last ≡ sets out at xs

abbrev pub Fills : Target → List Piece → ℕ → List ℕ → List ℕ → Type 0
Fills to ps at out last = Holds out at (octets_from to at ps) last
