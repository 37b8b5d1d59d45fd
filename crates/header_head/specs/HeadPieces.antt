-- The pieces of a header's parts, as they are written back; v is the message.
--   with_zero        a text's extent with its final zero
--   target_kind      the number of a target's kind
--   target_pieces    a target behind its kind: the key, the profile, or the index and the reference
--   part_pieces      the pieces of a part, from what it says; reserved octets are zero
--   on_head_part      what is written from a part on
--   head_pieces      the pieces of parts one after the other, each as it was read
use Rattle.std.specs.Prelude.{ℕ, ◌+◌, List, [], ◌∷◌, ◌++◌, replicate}
use Rattle.cdr.specs.declared.Index.{Index}
use Rattle.cdr.specs.declared.Order.{Order}
use Rattle.cdr_fields.specs.declared.Extent.{Extent}
use Rattle.cdr_fields.specs.Extents.{extent, extent_octets}
use Rattle.cdr_write.specs.Pieces.{Piece}
use Rattle.cdr_pieces.specs.PartPieces.{number_piece, run_piece, counted_pieces, tagged_pieces, tagged_list_pieces}
use Rattle.version.specs.Versions.{reserved_octets}
use Rattle.header_layout.specs.declared.HeaderPart.{HeaderPart}
use Rattle.header_layout.specs.declared.HeaderPart.TheVariants.{Contexts, Id, Response, Reserved, Key, Target as Addressed, Operation, Principal, Status}
use Rattle.header_parts.specs.declared.TargetAddress.{TargetAddress}
use Rattle.header_parts.specs.declared.TargetAddress.TheVariants.{Key as key, Profile, Reference}
use Rattle.header_reading.specs.Reading.{HeaderFields, HeaderUpto, through, stopped, part_read}

abbrev pub with_zero : Extent → Extent
with_zero text = extent text.from (text.length + 1)

abbrev pub target_kind : TargetAddress → ℕ
target_kind (key octets) = 0
target_kind (Profile tag octets) = 1
target_kind (Reference index id profiles) = 2

abbrev pub target_pieces : List ℕ → Order → TargetAddress → List Piece
target_pieces v order (key octets) = counted_pieces (extent_octets v octets)
target_pieces v order (Profile tag octets) = tagged_pieces tag (extent_octets v octets)
target_pieces v order (Reference index id profiles) =
    number_piece 4 index ∷ (counted_pieces (extent_octets v (with_zero id)) ++ tagged_list_pieces v order profiles)

unfoldable pub part_pieces : List ℕ → Order → ℕ → HeaderPart → HeaderFields → List Piece
part_pieces v order minor Contexts f = tagged_list_pieces v order f.contexts
part_pieces v order minor Id f = number_piece 4 f.id ∷ []
part_pieces v order minor Response f = number_piece 1 f.response ∷ []
part_pieces v order minor Reserved f = run_piece (replicate (reserved_octets minor) 0) ∷ []
part_pieces v order minor Key f = target_pieces v order f.target
part_pieces v order minor Addressed f = number_piece 2 (target_kind f.target) ∷ target_pieces v order f.target
part_pieces v order minor Operation f = counted_pieces (extent_octets v (with_zero f.operation))
part_pieces v order minor Principal f = counted_pieces (extent_octets v f.principal)
part_pieces v order minor Status f = number_piece 4 f.status ∷ []

abbrev pub on_head_part : HeaderUpto → (HeaderFields → Index → List Piece) → List Piece
on_head_part (through f i) g = g f i
on_head_part (stopped r) g = []

unfoldable pub head_pieces : List ℕ → Order → ℕ → List HeaderPart → HeaderFields → Index → List Piece
head_pieces v order minor [] f i = []
head_pieces v order minor (x ∷ xs) f i =
    on_head_part (part_read v order minor x f i) (λ g j. part_pieces v order minor x g ++ head_pieces v order minor xs g j)
