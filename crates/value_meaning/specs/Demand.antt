-- What is demanded of the type check and of reading a value together, in one piece. `value_answer` and `table_after` are what `read_value` of
-- the crate `value` ensures, and `checked_type` what `check_type` of the crate `typecode` does, for every input.
--   Accepts      the type check accepts: "an accepted TypeCode"
--   AnswerOf     "acceptance gives octets used, items and visits", the lent table has the items from its start, and all of them fit; a refusal
--                is the reading's and one of a value's, never a type's, "gives the visits begun", and leaves the table as it was
--   ReadUnder    the answer under an accepted type and the table after it are those of the reading, refused or not, so the visits are the
--                reading's; and they are at most k for each octet and k besides
--   Demand3      of every octets and order of a type:
--                  reads     where it is accepted and k kinds are written in it, so is every value of at most 16,384 octets read, in either
--                            order, at any index, with any table
--                  kinds     the number that the check gives is the number of kinds written, over the octets alone
--                  faults    it refuses with 42, 30 to 38 or 40 exactly where that is the first fault in octet order
--                  loops     it refuses with 39 exactly where none of these applies and some kind written leads to itself in one or more steps,
--                            none of which leaves a sequence, over the octets alone
use Rattle.std.specs.Prelude.{◌≡◌, ◌↔◌, ◌+◌, ◌*◌, ◌≤◌, Ok, Err}
use Rattle.choices.specs.{List, true, ℕ, length, sets}
use Rattle.cdr.specs.{Order, octets_limit}
use Rattle.type_counts.specs.{Refusal}
use Rattle.typecode.specs.{TypeCode.checked_type}
use Rattle.type_laws.specs.Loops.{Loops, FirstFault, NoFault, KindCount}
use Rattle.value_meaning.specs.{declared.ValueAnswer.ValueAnswer, Refusals.is_value_refusal, Sinks.Source, Sinks.St, Reading.Log}
use Rattle.value_meaning.specs.{Reading.room_for, Value.room_in, Value.visits_in, Value.reading_of, Value.value_answer, Value.item_rows}
use Rattle.value_meaning.specs.{Value.table_after}
use Rattle.value_meaning.specs.declared.ValueAnswer.TheVariants.{Accepted, Refused}
use Rattle.typecode.specs.declared.NoType.TheVariants.{Loop, Refused}

abbrev pub Accepts : List ℕ → Order → Type 0
Accepts v order = (used kinds : ℕ) × ((checked_type v order).answer ≡ Ok (used, kinds))

abbrev pub AnswerOf : St Log → List ℕ → ValueAnswer → List ℕ → Type 0
AnswerOf s table (Accepted used items visits) after =
    (s.fault ≡ 0) × (used ≡ s.at) × (items ≡ length s.kept.items) × (visits ≡ s.kept.visits)
    × (3 * items ≤ length table) × (after ≡ sets table 0 (item_rows s.kept.items))
AnswerOf s table (Refused number visits) after =
    (number ≡ s.fault) × (is_value_refusal number ≡ true) × (visits ≡ s.kept.visits) × (after ≡ table)

pub record ReadUnder (k : ℕ) (v : List ℕ) (order : Order) (x : Source) (table : List ℕ) : Type 0 where
  pub answer : AnswerOf (reading_of (room_for (room_in table)) v order x) table (value_answer v order x (room_in table)) (table_after v order x table)
  pub bound : visits_in (value_answer v order x (room_in table)) ≤ k * (length x.octets + 1)

pub record Demand3 (v : List ℕ) (order : Order) : Type 0 where
  pub reads : Accepts v order → (k : ℕ) → KindCount v order k → (x : Source) → length x.octets ≤ octets_limit → (table : List ℕ) → ReadUnder k v order x table
  pub kinds : (used k : ℕ) → (checked_type v order).answer ≡ Ok (used, k) → KindCount v order k
  pub faults : (r : Refusal) → ((checked_type v order).answer ≡ Err (Refused r)) ↔ FirstFault v order r
  pub loops : ((checked_type v order).answer ≡ Err Loop) ↔ (NoFault v order × Loops v order)
