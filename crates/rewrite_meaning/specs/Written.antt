-- "The same value in a chosen order, .. and index: smallest gaps, all zero." What is written is a fold over the pieces that the reading tells,
-- whatever kinds they come from.
--   unnamed_order   "big-endian if none is named"
--   written        the octets of a reading
--   gap_zeroed      octets of a value with the gap before a piece zeroed
--   gaps_zeroed     the same for the gaps before pieces, one after the other
--   used_zeroed     "the used octets with gaps zeroed"
--   unplaced       an item without its place: "the same items except places"
use Rattle.std.specs.Prelude.{◌-◌, ◌∷◌}
use Rattle.choices.specs.{ℕ, List, [], take, replicate, sets}
use Rattle.cdr.specs.{Order, Big}
pub use Rattle.cdr_write.specs.Pieces.{Target, target, bare}
unfoldable pub use Rattle.cdr_write.specs.Pieces.{wrote, writes}
use Rattle.value_meaning.specs.{Source, Item, item, run, St, Log, Sinks.Piece, Sinks.number}

abbrev pub unnamed_order : Order
unnamed_order = Big

abbrev pub written : Target → St Log → List ℕ
written to s = writes to [] s.kept.pieces

abbrev pub gap_zeroed : List ℕ → Piece → List ℕ
gap_zeroed v (number before place size value) = sets v (place - before) (replicate before 0)
gap_zeroed v (run place these) = v

unfoldable pub gaps_zeroed : List ℕ → List Piece → List ℕ
gaps_zeroed v [] = v
gaps_zeroed v (p ∷ ps) = gaps_zeroed (gap_zeroed v p) ps

abbrev pub used_zeroed : Source → St Log → List ℕ
used_zeroed x s = gaps_zeroed (take s.at x.octets) s.kept.pieces

abbrev pub unplaced : Item → Item
unplaced i = item i.kind 0 i.content
