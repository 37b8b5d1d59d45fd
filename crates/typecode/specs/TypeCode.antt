-- The check of octets as a TypeCode in a byte order: "the answer gives octets used and k, the number of kinds written", or the first
-- refusal, 39 "last of all".
--   type_answer_number    01's number of an answer, 0 for an accepted type
--   type_answer_numbers   an answer's number, octets used and kinds written: "a refusal's other numbers are 0"
--   CheckedType     an answer, and the kinds met
--   without_type     an answer without a type
--   accepted_type    octets used and kinds written, and the kinds met
--   loop_last        39: some kind returns to itself
--   checked_from     what the walk over the octets gives
--   checked_type     the check
--   told_by          what the struct that the code gives stands for
use Rattle.std.specs.Prelude.{◌∷◌, Result, Ok, Err}
use Rattle.choices.specs.{ℕ, List, [], length, choose}
use Rattle.type_loops.specs.Loops.{loop_found}
use Rattle.cdr.specs.{Index, Order}
use Rattle.type_kinds.specs.{Kind}
use Rattle.type_list.specs.Arrays.{kinds_met}
use Rattle.type_counts.specs.{Refusals.type_refusal_number}
use Rattle.type_walk.specs.Types.{walked_of}
use Rattle.type_steps.specs.Steps.{steps}
use Rattle.typecode.specs.declared.CheckedType as given
use Rattle.type_counts.specs.declared.Refusal.{Refusal}
use Rattle.typecode.specs.declared.NoType.TheVariants.{Loop, Refused}
use Rattle.typecode.specs.declared.NoType.{NoType}

abbrev pub type_answer_number : Result (ℕ × ℕ) NoType → ℕ
type_answer_number (Ok (used, kinds)) = 0
type_answer_number (Err (Refused r)) = type_refusal_number r
type_answer_number (Err Loop) = 39

abbrev pub type_answer_numbers : Result (ℕ × ℕ) NoType → List ℕ
type_answer_numbers (Ok (used, kinds)) = 0 ∷ used ∷ kinds ∷ []
type_answer_numbers (Err (Refused r)) = type_refusal_number r ∷ 0 ∷ 0 ∷ []
type_answer_numbers (Err Loop) = 39 ∷ 0 ∷ 0 ∷ []

pub record CheckedType : Type 0 where
  pub answer : Result (ℕ × ℕ) NoType
  pub kinds : List Kind

abbrev pub without_type : Result (ℕ × ℕ) NoType → CheckedType
without_type answer = record { answer = answer; kinds = [] }

abbrev pub accepted_type : Index → List Kind → CheckedType
accepted_type i ks = record { answer = Ok (i.0, length ks); kinds = ks }

unfoldable pub loop_last : List ℕ → Index → List Kind → CheckedType
loop_last v i ks = choose (loop_found (length ks) (steps v ks)) (λ _. without_type (Err Loop)) (λ _. accepted_type i ks)

abbrev pub checked_from : List ℕ → Result Index Refusal → List Kind → CheckedType
checked_from v (Err r) ks = without_type (Err (Refused r))
checked_from v (Ok i) ks = loop_last v i ks

unfoldable pub checked_type : List ℕ → Order → CheckedType
checked_type v order = checked_from v (walked_of v order).step (walked_of v order).walk.kinds

abbrev pub told_by : given.CheckedType → CheckedType
told_by c = record { answer = c.answer; kinds = kinds_met c.met }
