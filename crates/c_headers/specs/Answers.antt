-- What the C interface leaves in the numbers that it is lent: they are filled by a header that is read, or a context or profile that is there, and
-- kept by a refusal.
--   cells            a target's numbers; their names are the code's, and nothing that a caller is told rests on them
--   target_cells      those of a target
--   request_with      a request's numbers, with five of its target
--   request_cells     they, with those of a target
--   header_row_after   the seventeen numbers of a header that was read
--   numbered_after    the three numbers of a context or a profile
--   ReadsHeaderC     what a call of each function ensures, the number that it returns and all that was lent after it: of a header,
--   FindsContextC    of a context,
--   FindsTargetC     and of a profile of the reference that a request is addressed to
use Rattle.std.specs.Prelude.{◌≡◌, List, [], ◌∷◌, ◌++◌, ℕ, Result, Ok, Err}
use Rattle.cdr.specs.Orders.{order_octet}
use Rattle.cdr_fields.specs.declared.Extent.{Extent}
use Rattle.header_parts.specs.declared.TargetAddress.{TargetAddress}
use Rattle.header_parts.specs.declared.TargetAddress.TheVariants.{Key, Profile, Reference}
use Rattle.header.specs.declared.RequestHeader.{RequestHeader}
use Rattle.header.specs.Header.{header_answer}
use Rattle.header.specs.Numbered.{context_of, profile_of_target}
use Rattle.header.specs.Rows.{header_number, request_row, reply_row, numbered_number, numbered_row}
use Rattle.c_headers.specs.declared.TargetCells.{TargetCells}
use Rattle.header.specs.declared.MessageHeader.TheVariants.{Answered, Called}
use Rattle.header.specs.declared.MessageHeader.{MessageHeader}
use Rattle.header_parts.specs.declared.Refusal.{Refusal}

abbrev cells : ℕ → ℕ → Extent → ℕ → TargetCells
cells kind number octets profiles = record { kind = kind; number = number; octets = octets; profiles = profiles }

abbrev pub target_cells : TargetAddress → TargetCells
target_cells (Key octets) = cells 0 0 octets 0
target_cells (Profile tag octets) = cells 1 tag octets 0
target_cells (Reference index id profiles) = cells 2 index id profiles.count

abbrev pub request_with : RequestHeader → List ℕ → List ℕ
request_with q target =
    (0 ∷ q.minor ∷ order_octet q.order ∷ q.id ∷ q.response ∷ 0 ∷ [])
    ++ (target
    ++ (q.operation.from.0 ∷ q.operation.length ∷ q.principal.from.0 ∷ q.principal.length ∷ q.contexts.count ∷ q.body ∷ []))

abbrev pub request_cells : RequestHeader → TargetCells → List ℕ
request_cells q t = request_with q (t.kind ∷ t.number ∷ t.octets.from.0 ∷ t.octets.length ∷ t.profiles ∷ [])

abbrev pub header_row_after : Result MessageHeader Refusal → List ℕ → List ℕ
header_row_after (Ok (Called q)) before = request_row q
header_row_after (Ok (Answered a)) before = reply_row a
header_row_after (Err r) before = before

abbrev pub numbered_after : Result (ℕ × Extent) Refusal → List ℕ → List ℕ
numbered_after (Ok (tag, octets)) before = numbered_row tag octets
numbered_after (Err r) before = before

pub record ReadsHeaderC (v before : List ℕ) (r : ℕ) (after : List ℕ) : Type 0 where
  pub answer : r ≡ header_number (header_answer v)
  pub row : after ≡ header_row_after (header_answer v) before

pub record FindsContextC (v : List ℕ) (number : ℕ) (before : List ℕ) (r : ℕ) (after : List ℕ) : Type 0 where
  pub answer : r ≡ numbered_number (context_of v number)
  pub found : after ≡ numbered_after (context_of v number) before

pub record FindsTargetC (v : List ℕ) (number : ℕ) (before : List ℕ) (r : ℕ) (after : List ℕ) : Type 0 where
  pub answer : r ≡ numbered_number (profile_of_target v number)
  pub found : after ≡ numbered_after (profile_of_target v number) before
