-- What reading the next part comes to, by what stands there, whatever was read before and follows.
use Rattle.std.specs.Prelude.{Option, Result}
use mathlib.Core.Path.{◌≡◌, ap}
use mathlib.Core.List.{List, ◌∷◌}
use Prim.Native.Nat.{ℕ}
use Rattle.cdr.specs.declared.Index.{Index}
use Rattle.cdr.specs.declared.Order.{Order}
use Rattle.cdr.specs.declared.Size.TheVariants.{Four}
use Rattle.cdr_text.specs.Text.{run_of}
use Rattle.cdr_fields.specs.Encapsulation.{field_of}
use Rattle.cdr_fields.specs.Extents.{counted_at}
use Rattle.cdr_fields.specs.Tagged.{tagged_list_at}
use Rattle.version.specs.Versions.{reserved_octets}
use Rattle.header_layout.specs.declared.HeaderPart.{HeaderPart}
use Rattle.header_layout.specs.declared.HeaderPart.TheVariants.{Contexts, Id, Response, Reserved, Key, Target as Addressed, Operation, Principal, Status}
use Rattle.header_parts.specs.Parts.{response_at, status_at, header_text_at}
use Rattle.header_parts.specs.Targets.{key_target, target_at}
use Rattle.header_reading.specs.Reading.{HeaderFields, HeaderUpto, part_read, on_part, parts_read}
use Rattle.header_reading.specs.Reading.{contexts_set, id_set, response_set, target_set, operation_set, principal_set, status_set}
use Rattle.header_reading.specs.Reading.{after_field, after_number, after_list, after_counted, after_text, after_target, after_reserved}
use Rattle.cdr_fields.specs.declared.Extent.{Extent}
use Rattle.cdr_fields.specs.declared.TaggedList.{TaggedList}
use Rattle.header_parts.specs.declared.Refusal.{Refusal}
use Rattle.header_parts.specs.declared.TargetAddress.{TargetAddress}

module _ (v : List ℕ) (order : Order) (minor : ℕ) (xs : List HeaderPart) (f : HeaderFields) (i : Index) where
  abbrev rest : HeaderFields → Index → HeaderUpto
  rest g j = parts_read v order minor xs g j

  pub part_step : (x : HeaderPart) (r : HeaderUpto) → part_read v order minor x f i ≡ r → parts_read v order minor (x ∷ xs) f i ≡ on_part r rest
  unfolding parts_read
  part_step x r e = ap (λ (u : HeaderUpto). on_part u rest) e

  pub contexts-step : (r : Option (TaggedList × Index)) → tagged_list_at v i order ≡ r → parts_read v order minor (Contexts ∷ xs) f i ≡ on_part (after_list r (contexts_set f)) rest
  unfolding part_read
  contexts-step r e = part_step Contexts (after_list r (contexts_set f)) (ap (λ (u : Option (TaggedList × Index)). after_list u (contexts_set f)) e)

  pub id-step : (r : Option (ℕ × Index)) → field_of v i Four order ≡ r → parts_read v order minor (Id ∷ xs) f i ≡ on_part (after_field r (id_set f)) rest
  unfolding part_read
  id-step r e = part_step Id (after_field r (id_set f)) (ap (λ (u : Option (ℕ × Index)). after_field u (id_set f)) e)

  pub response-step : (r : Result (ℕ × Index) Refusal) → response_at v i order minor ≡ r
      → parts_read v order minor (Response ∷ xs) f i ≡ on_part (after_number r (response_set f)) rest
  unfolding part_read
  response-step r e = part_step Response (after_number r (response_set f)) (ap (λ (u : Result (ℕ × Index) Refusal). after_number u (response_set f)) e)

  pub reserved-step : (r : Option ℕ) → run_of v i.0 (reserved_octets minor) ≡ r → parts_read v order minor (Reserved ∷ xs) f i ≡ on_part (after_reserved r f) rest
  unfolding part_read
  reserved-step r e = part_step Reserved (after_reserved r f) (ap (λ (u : Option ℕ). after_reserved u f) e)

  pub key_step : (r : Result (TargetAddress × Index) Refusal) → key_target v i order ≡ r → parts_read v order minor (Key ∷ xs) f i ≡ on_part (after_target r (target_set f)) rest
  unfolding part_read
  key_step r e = part_step Key (after_target r (target_set f)) (ap (λ (u : Result (TargetAddress × Index) Refusal). after_target u (target_set f)) e)

  pub target-step : (r : Result (TargetAddress × Index) Refusal) → target_at v i order ≡ r → parts_read v order minor (Addressed ∷ xs) f i ≡ on_part (after_target r (target_set f)) rest
  unfolding part_read
  target-step r e = part_step Addressed (after_target r (target_set f)) (ap (λ (u : Result (TargetAddress × Index) Refusal). after_target u (target_set f)) e)

  pub operation-step : (r : Result (Extent × Index) Refusal) → header_text_at v i order ≡ r → parts_read v order minor (Operation ∷ xs) f i ≡ on_part (after_text r (operation_set f)) rest
  unfolding part_read
  operation-step r e = part_step Operation (after_text r (operation_set f)) (ap (λ (u : Result (Extent × Index) Refusal). after_text u (operation_set f)) e)

  pub principal-step : (r : Option (Extent × Index)) → counted_at v i order ≡ r → parts_read v order minor (Principal ∷ xs) f i ≡ on_part (after_counted r (principal_set f)) rest
  unfolding part_read
  principal-step r e = part_step Principal (after_counted r (principal_set f)) (ap (λ (u : Option (Extent × Index)). after_counted u (principal_set f)) e)

  pub status-step : (r : Result (ℕ × Index) Refusal) → status_at v i order minor ≡ r → parts_read v order minor (Status ∷ xs) f i ≡ on_part (after_number r (status_set f)) rest
  unfolding part_read
  status-step r e = part_step Status (after_number r (status_set f)) (ap (λ (u : Result (ℕ × Index) Refusal). after_number u (status_set f)) e)
