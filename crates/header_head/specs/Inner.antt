-- What private functions promise each other; nothing that a caller is told rests on these names. Each copies what stands in the message v at an
-- index to the output at the same index.
--   Copied            pieces from an index up to another, where the output has room for them
--   CopiesReserved    the reserved octets, as zeros
--   CopiesNumber      a number
--   CopiesCounted     octets behind their count
--   CopiesTagged      tagged octets
--   CopiesEntries     so many of them
--   CopiesList        a list of them behind its count
--   CopiesReference   an index and a reference
--   CopiesKind        a target behind its kind
--   CopiesTarget      a target
--   CopiesPart        a part
--   CopiesParts       all parts of a header
--   WritesHead        all before the body, or 76
use Rattle.std.specs.Prelude.{ℕ, ◌+◌, ◌≤◌, ◌<◌, ◌≡◌, List, [], ◌∷◌, length, replicate, Some, Result, Ok, Err}
use Rattle.std.proofs.lemmas.List.Edits.{sets}
use Rattle.cdr.specs.declared.Index.{Index}
use Rattle.cdr.specs.declared.Order.{Order}
use Rattle.cdr.specs.declared.Size.{Size}
use Rattle.cdr.specs.Align.{octets, index_of}
use Rattle.cdr_text.specs.Text.{run_of}
use Rattle.cdr_fields.specs.declared.Extent.{Extent}
use Rattle.cdr_fields.specs.declared.TaggedList.{TaggedList}
use Rattle.cdr_fields.specs.Encapsulation.{start, field_of}
use Rattle.cdr_fields.specs.Extents.{extent_octets, counted_at}
use Rattle.cdr_fields.specs.Tagged.{tagged_at, skip_tagged, tagged_list_at}
use Rattle.cdr_write.specs.Pieces.{Piece, target}
use Rattle.cdr_pieces.specs.PartPieces.{number_piece, run_piece, counted_pieces, tagged_pieces, list_pieces, tagged_list_pieces, octets_from, Fills}
use Rattle.version.specs.Versions.{reserved_octets}
use Rattle.frame.specs.Header.{header_size}
use Rattle.header_layout.specs.declared.HeaderPart.{HeaderPart}
use Rattle.header_layout.specs.Layout.{layout_of}
use Rattle.header_parts.specs.declared.Refusal.TheVariants.{NoRoom}
use Rattle.header_parts.specs.declared.TargetAddress.{TargetAddress}
use Rattle.header_parts.specs.Targets.{reference_target, target_of_kind, target_at}
use Rattle.header_reading.specs.Reading.{HeaderFields, no_fields, through, part_read, parts_read}
use Rattle.header.specs.Header.{header_start}
use Rattle.header_head.specs.HeadPieces.{target_kind, target_pieces, part_pieces, head_pieces}
use Rattle.header_head.specs.Head.{header_octets, padded}
use Rattle.header_parts.specs.declared.Refusal.{Refusal}

pub record Copied (order : Order) (ps : List Piece) (at next : ℕ) (out : List ℕ) (r : ℕ) (last : List ℕ) : Type 0 where
  pub ends : r ≡ next
  pub reach : next ≡ at + length (octets_from (target order start) at ps)
  pub fills : Fills (target order start) ps at out last

module _ (v : List ℕ) (order : Order) (at : ℕ) (out : List ℕ) (r : ℕ) (last : List ℕ) where
  abbrev pub CopiesReserved : ℕ → Type 0
  CopiesReserved minor =
      (e : ℕ) → run_of v at (reserved_octets minor) ≡ Some e → Copied order (run_piece (replicate (reserved_octets minor) 0) ∷ []) at e out r last

  abbrev pub CopiesNumber : Size → Type 0
  CopiesNumber size =
      (x : ℕ) (next : Index) → field_of v (index_of at) size order ≡ Some (x, next)
      → Copied order (number_piece (octets size) x ∷ []) at next.0 out r last

  abbrev pub CopiesCounted : Type 0
  CopiesCounted =
      (part : Extent) (next : Index) → counted_at v (index_of at) order ≡ Some (part, next)
      → Copied order (counted_pieces (extent_octets v part)) at next.0 out r last

  abbrev pub CopiesTagged : Type 0
  CopiesTagged =
      (tag : ℕ) (part : Extent) (next : Index) → tagged_at v (index_of at) order ≡ Some (tag, part, next)
      → Copied order (tagged_pieces tag (extent_octets v part)) at next.0 out r last

  abbrev pub CopiesEntries : ℕ → Type 0
  CopiesEntries count =
      (next : Index) → skip_tagged v order count (index_of at) ≡ Some next → Copied order (list_pieces v order count (index_of at)) at next.0 out r last

  abbrev pub CopiesList : Type 0
  CopiesList =
      (list : TaggedList) (next : Index) → tagged_list_at v (index_of at) order ≡ Some (list, next)
      → Copied order (tagged_list_pieces v order list) at next.0 out r last

  abbrev pub CopiesReference : Type 0
  CopiesReference =
      (t : TargetAddress) (next : Index) → reference_target v (index_of at) order ≡ Ok (t, next)
      → Copied order (target_pieces v order t) at next.0 out r last

  abbrev pub CopiesKind : ℕ → Type 0
  CopiesKind kind =
      (t : TargetAddress) (next : Index) → target_of_kind v kind (index_of at) order ≡ Ok (t, next)
      → Copied order (target_pieces v order t) at next.0 out r last

  abbrev pub CopiesTarget : Type 0
  CopiesTarget =
      (t : TargetAddress) (next : Index) → target_at v (index_of at) order ≡ Ok (t, next)
      → Copied order (number_piece 2 (target_kind t) ∷ target_pieces v order t) at next.0 out r last

  abbrev pub CopiesPart : ℕ → HeaderPart → Type 0
  CopiesPart minor x =
      (f g : HeaderFields) (next : Index) → part_read v order minor x f (index_of at) ≡ through g next
      → Copied order (part_pieces v order minor x g) at next.0 out r last

  abbrev pub CopiesParts : ℕ → ℕ → Type 0
  CopiesParts kind minor =
      (f g : HeaderFields) (next : Index) → parts_read v order minor (layout_of kind minor) f (index_of at) ≡ through g next
      → Copied order (head_pieces v order minor (layout_of kind minor) f (index_of at)) at next.0 out r last

pub record WritesHead (v : List ℕ) (kind : ℕ) (order : Order) (minor body : ℕ) (out : List ℕ) (r : Result ℕ Refusal) (last : List ℕ) : Type 0 where
  pub short : length out < body → (r ≡ Err NoRoom) × (last ≡ out)
  pub written : body ≤ length out → header_size ≤ length v → (f : HeaderFields) (end : Index)
      → parts_read v order minor (layout_of kind minor) no_fields header_start ≡ through f end → end.0 ≤ body
      → (r ≡ Ok body) × (last ≡ sets out 0 (padded (header_octets v kind order minor) body))
