-- Parts of a header that stand one behind the other in every version, read together.
--   on_call, on_outcome, on_address
--                     what follows parts that were read together, or their refusal
--   ReadsCall         the request id, the response and the reserved octets read, whatever stands before and behind them
--   ReadsOutcome      the request id and the status
--   ReadsKeyAddress   the key and the operation
--   ReadsAddress      the target and the operation
use Rattle.std.specs.Prelude.{ℕ, ◌≡◌, List, ◌∷◌, Result, Ok, Err}
use Rattle.cdr.specs.declared.Index.{Index}
use Rattle.cdr.specs.declared.Order.{Order}
use Rattle.cdr_fields.specs.declared.Extent.{Extent}
use Rattle.header_layout.specs.declared.HeaderPart.{HeaderPart}
use Rattle.header_layout.specs.declared.HeaderPart.TheVariants.{Id, Response, Reserved, Key, Target as Addressed, Operation, Status}
use Rattle.header_parts.specs.declared.TargetAddress.{TargetAddress}
use Rattle.header_reading.specs.declared.CallPart.{CallPart}
use Rattle.header_reading.specs.declared.OutcomePart.{OutcomePart}
use Rattle.header_reading.specs.declared.AddressPart.{AddressPart}
use Rattle.header_reading.specs.Reading.{HeaderFields, HeaderUpto, stopped, parts_read}
use Rattle.header_reading.specs.Reading.{id_set, response_set, target_set, operation_set, status_set}
use Rattle.header_parts.specs.declared.Refusal.{Refusal}

abbrev pub on_call : Result CallPart Refusal → (ℕ → ℕ → Index → HeaderUpto) → HeaderUpto
on_call (Ok call) f = f call.id call.response call.next
on_call (Err r) f = stopped r

abbrev pub on_outcome : Result OutcomePart Refusal → (ℕ → ℕ → Index → HeaderUpto) → HeaderUpto
on_outcome (Ok outcome) f = f outcome.id outcome.status outcome.next
on_outcome (Err r) f = stopped r

abbrev pub on_address : Result AddressPart Refusal → (TargetAddress → Extent → Index → HeaderUpto) → HeaderUpto
on_address (Ok address) f = f address.target address.operation address.next
on_address (Err r) f = stopped r

pub record ReadsCall (v : List ℕ) (order : Order) (minor : ℕ) (at : Index) (r : Result CallPart Refusal) : Type 0 where
  pub reads : (xs : List HeaderPart) (f : HeaderFields)
      → parts_read v order minor (Id ∷ Response ∷ Reserved ∷ xs) f at
      ≡ on_call r (λ id response next. parts_read v order minor xs (response_set (id_set f id) response) next)

pub record ReadsOutcome (v : List ℕ) (order : Order) (minor : ℕ) (at : Index) (r : Result OutcomePart Refusal) : Type 0 where
  pub reads : (xs : List HeaderPart) (f : HeaderFields)
      → parts_read v order minor (Id ∷ Status ∷ xs) f at
      ≡ on_outcome r (λ id status next. parts_read v order minor xs (status_set (id_set f id) status) next)

pub record ReadsKeyAddress (v : List ℕ) (order : Order) (minor : ℕ) (at : Index) (r : Result AddressPart Refusal) : Type 0 where
  pub reads : (xs : List HeaderPart) (f : HeaderFields)
      → parts_read v order minor (Key ∷ Operation ∷ xs) f at
      ≡ on_address r (λ target operation next. parts_read v order minor xs (operation_set (target_set f target) operation) next)

pub record ReadsAddress (v : List ℕ) (order : Order) (minor : ℕ) (at : Index) (r : Result AddressPart Refusal) : Type 0 where
  pub reads : (xs : List HeaderPart) (f : HeaderFields)
      → parts_read v order minor (Addressed ∷ Operation ∷ xs) f at
      ≡ on_address r (λ target operation next. parts_read v order minor xs (operation_set (target_set f target) operation) next)
