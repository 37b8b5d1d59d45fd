-- A header read part by part, in the order of its octets; v is the message, and indices are its own: "alignment counted from the message's first
-- octet".
--   HeaderFields    what the parts say; what a header hasn't is 0
--   no_fields        nothing read yet
--   contexts_set, id_set, response_set, target_set, operation_set, principal_set, status_set
--                   one of them read
--   HeaderUpto      what was read up to an index, or the refusal
--   after_field, after_number, after_list, after_counted, after_text, after_target, after_reserved
--                   what follows a part, or its refusal; 70 where its octets end
--   part_read        a part, at an index
--   on_part          what follows what was read
--   parts_read       parts one after the other: "first fault in octet order"
use Rattle.std.specs.Prelude.{ℕ, List, [], ◌∷◌, Option, Some, None, Result, Ok, Err}
use Rattle.cdr.specs.declared.Index.{Index}
use Rattle.cdr.specs.declared.Order.{Order}
use Rattle.cdr.specs.declared.Size.TheVariants.{Four}
use Rattle.cdr.specs.Align.{index_of}
use Rattle.cdr_text.specs.Text.{run_of}
use Rattle.cdr_fields.specs.declared.Extent.{Extent}
use Rattle.cdr_fields.specs.declared.TaggedList.{TaggedList}
use Rattle.cdr_fields.specs.Encapsulation.{start, field_of}
use Rattle.cdr_fields.specs.Extents.{no_extent, counted_at}
use Rattle.cdr_fields.specs.Tagged.{tagged_list, tagged_list_at}
use Rattle.version.specs.Versions.{reserved_octets}
use Rattle.header_layout.specs.declared.HeaderPart.{HeaderPart}
use Rattle.header_layout.specs.declared.HeaderPart.TheVariants.{Contexts, Id, Response, Reserved, Key, Target as Addressed, Operation, Principal, Status}
use Rattle.header_parts.specs.declared.Refusal.{Refusal}
use Rattle.header_parts.specs.declared.Refusal.TheVariants.{Ends}
use Rattle.header_parts.specs.declared.TargetAddress.{TargetAddress}
use Rattle.header_parts.specs.declared.TargetAddress.TheVariants.{Key as key}
use Rattle.header_parts.specs.Parts.{response_at, status_at, header_text_at}
use Rattle.header_parts.specs.Targets.{key_target, target_at}

pub record HeaderFields : Type 0 where
  pub contexts : TaggedList
  pub id : ℕ
  pub response : ℕ
  pub target : TargetAddress
  pub operation : Extent
  pub principal : Extent
  pub status : ℕ

abbrev fields : TaggedList → ℕ → ℕ → TargetAddress → Extent → Extent → ℕ → HeaderFields
fields c i r t o p s = record { contexts = c; id = i; response = r; target = t; operation = o; principal = p; status = s }

abbrev pub no_fields : HeaderFields
no_fields = fields (tagged_list 0 start) 0 0 (key no_extent) no_extent no_extent 0

abbrev pub contexts_set : HeaderFields → TaggedList → HeaderFields
contexts_set f x = fields x f.id f.response f.target f.operation f.principal f.status

abbrev pub id_set : HeaderFields → ℕ → HeaderFields
id_set f x = fields f.contexts x f.response f.target f.operation f.principal f.status

abbrev pub response_set : HeaderFields → ℕ → HeaderFields
response_set f x = fields f.contexts f.id x f.target f.operation f.principal f.status

abbrev pub target_set : HeaderFields → TargetAddress → HeaderFields
target_set f x = fields f.contexts f.id f.response x f.operation f.principal f.status

abbrev pub operation_set : HeaderFields → Extent → HeaderFields
operation_set f x = fields f.contexts f.id f.response f.target x f.principal f.status

abbrev pub principal_set : HeaderFields → Extent → HeaderFields
principal_set f x = fields f.contexts f.id f.response f.target f.operation x f.status

abbrev pub status_set : HeaderFields → ℕ → HeaderFields
status_set f x = fields f.contexts f.id f.response f.target f.operation f.principal x

pub data HeaderUpto : Type 0 where
  through : HeaderFields → Index → HeaderUpto
  stopped : Refusal → HeaderUpto

abbrev pub after_field : Option (ℕ × Index) → (ℕ → HeaderFields) → HeaderUpto
after_field (Some (x, next)) f = through (f x) next
after_field None f = stopped Ends

abbrev pub after_number : Result (ℕ × Index) Refusal → (ℕ → HeaderFields) → HeaderUpto
after_number (Ok (x, next)) f = through (f x) next
after_number (Err r) f = stopped r

abbrev pub after_list : Option (TaggedList × Index) → (TaggedList → HeaderFields) → HeaderUpto
after_list (Some (x, next)) f = through (f x) next
after_list None f = stopped Ends

abbrev pub after_counted : Option (Extent × Index) → (Extent → HeaderFields) → HeaderUpto
after_counted (Some (x, next)) f = through (f x) next
after_counted None f = stopped Ends

abbrev pub after_text : Result (Extent × Index) Refusal → (Extent → HeaderFields) → HeaderUpto
after_text (Ok (x, next)) f = through (f x) next
after_text (Err r) f = stopped r

abbrev pub after_target : Result (TargetAddress × Index) Refusal → (TargetAddress → HeaderFields) → HeaderUpto
after_target (Ok (x, next)) f = through (f x) next
after_target (Err r) f = stopped r

abbrev pub after_reserved : Option ℕ → HeaderFields → HeaderUpto
after_reserved (Some e) f = through f (index_of e)
after_reserved None f = stopped Ends

unfoldable pub part_read : List ℕ → Order → ℕ → HeaderPart → HeaderFields → Index → HeaderUpto
part_read v order minor Contexts f i = after_list (tagged_list_at v i order) (contexts_set f)
part_read v order minor Id f i = after_field (field_of v i Four order) (id_set f)
part_read v order minor Response f i = after_number (response_at v i order minor) (response_set f)
part_read v order minor Reserved f i = after_reserved (run_of v i.0 (reserved_octets minor)) f
part_read v order minor Key f i = after_target (key_target v i order) (target_set f)
part_read v order minor Addressed f i = after_target (target_at v i order) (target_set f)
part_read v order minor Operation f i = after_text (header_text_at v i order) (operation_set f)
part_read v order minor Principal f i = after_counted (counted_at v i order) (principal_set f)
part_read v order minor Status f i = after_number (status_at v i order minor) (status_set f)

abbrev pub on_part : HeaderUpto → (HeaderFields → Index → HeaderUpto) → HeaderUpto
on_part (through f i) g = g f i
on_part (stopped r) g = stopped r

unfoldable pub parts_read : List ℕ → Order → ℕ → List HeaderPart → HeaderFields → Index → HeaderUpto
parts_read v order minor [] f i = through f i
parts_read v order minor (x ∷ xs) f i = on_part (part_read v order minor x f i) (λ g j. parts_read v order minor xs g j)
