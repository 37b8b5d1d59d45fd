-- "Loop: from a kind written at a place one steps to the kinds directly inside it, an indirection counting as its target; from a sequence
-- there is no step. 39 exactly when some kind returns to itself in one or more steps", over the octets alone; and "k, the number of kinds
-- written".
--   Step01        a step: to a kind written directly inside, or to the kind written at an indirection's target
--   Leads         one or more steps
--   Loops         some kind that is written returns to itself
--   FirstFault    "type refusals, first fault in octet order": the octets have this fault first, of 42, 30 to 38 and 40
--   NoFault       no other type refusal applies
--   Ascending     each kind's place lies before those of the kinds after it
--   Listed        a list of the kinds written, in order of place, each of them once
--   KindCount     the number of kinds written
use Rattle.std.specs.Prelude.{◌≡◌, ◌↔◌, ◌∷◌, ◌<◌, Err}
use Rattle.choices.specs.{List, [], false, ℕ, length, Among}
use Rattle.cdr.specs.{Place, Order}
use Rattle.type_kinds.specs.{Kind, Here, There}
use Rattle.type_parameters.specs.{Parameters.parameters_at}
use Rattle.type_counts.specs.{Refusal}
use Rattle.type_walk.specs.Types.{walked_of}
use Rattle.type_laws.specs.Written.{is_sequence, KindWritten, Inside}

pub data Step01 (v : List ℕ) (order : Order) : Kind → Kind → Type 0 where
  down : {a b : Kind} → is_sequence (parameters_at v a) ≡ false → Inside v order a (Here b) → Step01 v order a b
  across : {a b : Kind} {p : Place} → is_sequence (parameters_at v a) ≡ false → Inside v order a (There p) → KindWritten v order b → b.place ≡ p
      → Step01 v order a b

pub data Leads (v : List ℕ) (order : Order) : Kind → Kind → Type 0 where
  once : {a b : Kind} → Step01 v order a b → Leads v order a b
  then : {a b c : Kind} → Step01 v order a b → Leads v order b c → Leads v order a c

abbrev pub Loops : List ℕ → Order → Type 0
Loops v order = (a : Kind) × KindWritten v order a × Leads v order a a

abbrev pub FirstFault : List ℕ → Order → Refusal → Type 0
FirstFault v order r = (walked_of v order).step ≡ Err r

abbrev pub NoFault : List ℕ → Order → Type 0
NoFault v order = (r : Refusal) → FirstFault v order r → ⊥

abbrev pub Ascending : List Kind → Type 0
Ascending [] = Unit {0}
Ascending (a ∷ ks) = ((b : Kind) → Among b ks → a.place.0 < b.place.0) × Ascending ks

pub record Listed (v : List ℕ) (order : Order) (ks : List Kind) : Type 0 where
  pub ascending : Ascending ks
  pub all : (a : Kind) → Among a ks ↔ KindWritten v order a

pub record KindCount (v : List ℕ) (order : Order) (k : ℕ) : Type 0 where
  pub kinds : List Kind
  pub listed : Listed v order kinds
  pub many : length kinds ≡ k
