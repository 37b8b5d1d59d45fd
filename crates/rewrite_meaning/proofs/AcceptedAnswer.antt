-- What an accepted answer tells of the type, of the octets and of the reading, and where the answer is accepted.
use Rattle.std.specs.Prelude.{Result, Ok, Err}
use mathlib.Core.Path.{◌≡◌, refl, subst}
use mathlib.Core.List.{List}
use mathlib.Core.Bool.{Bool, true, false}
use Prim.Native.Nat.{ℕ, ◌≤◌}
use lib.Dec.{ltb, eqb}
use lib.ListN.{length}
use borrow.Author.Tests.{eqb-true, eq-eqb, ltb-false, le-ltb}
use Rattle.choices.specs.Branch.{choose}
use Rattle.choices.proofs.Choices.{clash, or-false, neither}
use Rattle.cdr.specs.declared.Order.{Order}
use Rattle.cdr.specs.Limit.{octets_limit}
use Rattle.typecode.specs.TypeCode.{checked_type}
use Rattle.value_meaning.specs.declared.ValueAnswer.TheVariants.{Accepted, Refused}
use Rattle.value_meaning.specs.Sinks.{Source, St}
use Rattle.value_meaning.specs.Reading.{Log, any_room}
use Rattle.value_meaning.specs.Value.{reading_answer, overlong, on_type, reading_of}
use Rattle.rewrite_meaning.specs.declared.RewriteAnswer.TheVariants.{Accepted as accepted, Refused as refused}
use Rattle.rewrite_meaning.specs.Written.{Target, written}
use Rattle.rewrite_meaning.specs.Rewriting.{rewrite_of, rewrite_answer}
use Rattle.typecode.specs.declared.NoType.TheVariants.{Loop, Refused}
use Rattle.typecode.specs.declared.NoType.{NoType}

-- an accepted value: what the reading's answer tells, and the answer of a reading without a fault
pub record ReadAs (s : St Log) (used items visits : ℕ) : Type 0 where
  pub fault : s.fault ≡ 0
  pub at : s.at ≡ used
  pub count : length s.kept.items ≡ items
  pub begun : s.kept.visits ≡ visits

read_by : (s : St Log) (used items visits : ℕ) (t : Bool) → eqb s.fault 0 ≡ t
    → choose t (λ _. Accepted s.at (length s.kept.items) s.kept.visits) (λ _. Refused s.fault s.kept.visits) ≡ Accepted used items visits
    → ReadAs s used items visits
unfolding choose
read_by s used items visits true t e = record { fault = eqb-true s.fault 0 t; at = cc; count = cc; begun = cc }
read_by s used items visits false t e = clash cc

pub read_as : (s : St Log) (used items visits : ℕ) → reading_answer s ≡ Accepted used items visits → ReadAs s used items visits
read_as s used items visits e = read_by s used items visits _ refl e

pub read-accepted : (s : St Log) (used items visits : ℕ) → ReadAs s used items visits → reading_answer s ≡ Accepted used items visits
unfolding choose
read-accepted s used items visits r = rw (eq-eqb s.fault 0 r.fault, r.at, r.count, r.begun)

-- the same of rewriting
pub record WrittenAs (s : St Log) (to : Target) (n : ℕ) : Type 0 where
  pub fault : s.fault ≡ 0
  pub count : length (written to s) ≡ n

written-by : (s : St Log) (to : Target) (n : ℕ) (t u : Bool) → eqb s.fault 0 ≡ t
    → choose t (λ _. choose u (λ _. refused 57) (λ _. accepted (length (written to s)))) (λ _. refused s.fault) ≡ accepted n
    → WrittenAs s to n
unfolding choose
written-by s to n true true t e = clash cc
written-by s to n true false t e = record { fault = eqb-true s.fault 0 t; count = cc }
written-by s to n false u t e = clash cc

written_as : (s : St Log) (to : Target) (room n : ℕ) → rewrite_of s to room ≡ accepted n → WrittenAs s to n
unfolding rewrite_of
written_as s to room n e = written-by s to n _ _ refl e

written-accepted : (s : St Log) (to : Target) (room n : ℕ) → WrittenAs s to n → n ≤ room → rewrite_of s to room ≡ accepted n
unfolding rewrite_of choose
written-accepted s to room n r h = rw (eq-eqb s.fault 0 r.fault, r.count, le-ltb room n h)

room_by : (s : St Log) (to : Target) (room n : ℕ) (t u : Bool) → ltb room (length (written to s)) ≡ u
    → choose t (λ _. choose u (λ _. refused 57) (λ _. accepted (length (written to s)))) (λ _. refused s.fault) ≡ accepted n → n ≤ room
unfolding choose
room_by s to room n true true u e = clash cc
room_by s to room n true false u e =
    let c : length (written to s) ≡ n = cc in
    subst (λ (k : ℕ). k ≤ room) c (ltb-false room (length (written to s)) u)
room_by s to room n false t u e = clash cc

written-room : (s : St Log) (to : Target) (room n : ℕ) → rewrite_of s to room ≡ accepted n → n ≤ room
unfolding rewrite_of
written-room s to room n e = room_by s to room n _ _ refl e

-- under an accepted type, and octets that are not over the limit
pub record RewrittenAs (v : List ℕ) (order : Order) (x : Source) (to : Target) (n : ℕ) : Type 0 where
  pub type_short : length v ≤ octets_limit
  pub short : length x.octets ≤ octets_limit
  pub used : ℕ
  pub kinds : ℕ
  pub type : (checked_type v order).answer ≡ Ok (used, kinds)
  pub octets : WrittenAs (reading_of any_room v order x) to n

module _ (v : List ℕ) (order : Order) (x : Source) (to : Target) (room n : ℕ) where
  on-type : overlong v x ≡ false → (a : Result (ℕ × ℕ) NoType) → (checked_type v order).answer ≡ a
      → on_type a (λ _. rewrite_of (reading_of any_room v order x) to room) refused ≡ accepted n → RewrittenAs v order x to n
  on-type h (Ok (used, kinds)) t e =
      let b = neither (ltb octets_limit (length v)) (ltb octets_limit (length x.octets)) h in
      record {
        type_short = ltb-false octets_limit (length v) b.0;
        short = ltb-false octets_limit (length x.octets) b.1;
        used = used;
        kinds = kinds;
        type = t;
        octets = written_as (reading_of any_room v order x) to room n e;
      }
  on-type h (Err (Refused r)) t e = clash cc
  on-type h (Err Loop) t e = clash cc

  rewritten-by : (t : Bool) → overlong v x ≡ t
      → choose t (λ _. refused 42) (λ _. on_type (checked_type v order).answer (λ _. rewrite_of (reading_of any_room v order x) to room) refused)
      ≡ accepted n → RewrittenAs v order x to n
  unfolding choose
  rewritten-by true t e = clash cc
  rewritten-by false t e = on-type t _ refl e

  pub rewritten-as : rewrite_answer v order x to room ≡ accepted n → RewrittenAs v order x to n
  unfolding rewrite_answer
  rewritten-as e = rewritten-by _ refl e

  not-overlong : RewrittenAs v order x to n → overlong v x ≡ false
  not-overlong r =
      or-false (ltb octets_limit (length v)) (ltb octets_limit (length x.octets))
      (le-ltb octets_limit (length v) r.type_short) (le-ltb octets_limit (length x.octets) r.short)

  pub rewritten-accepted : RewrittenAs v order x to n → n ≤ room → rewrite_answer v order x to room ≡ accepted n
  unfolding rewrite_answer choose
  rewritten-accepted r h = rw (not-overlong r, r.type) (written-accepted (reading_of any_room v order x) to room n r.octets h)

  -- what is accepted has room
  room-type : (a : Result (ℕ × ℕ) NoType) → on_type a (λ _. rewrite_of (reading_of any_room v order x) to room) refused ≡ accepted n → n ≤ room
  room-type (Ok (used, kinds)) e = written-room (reading_of any_room v order x) to room n e
  room-type (Err (Refused r)) e = clash cc
  room-type (Err Loop) e = clash cc

  rewritten-room-by : (t : Bool)
      → choose t (λ _. refused 42) (λ _. on_type (checked_type v order).answer (λ _. rewrite_of (reading_of any_room v order x) to room) refused)
      ≡ accepted n → n ≤ room
  unfolding choose
  rewritten-room-by true e = clash cc
  rewritten-room-by false e = room-type (checked_type v order).answer e

  pub rewritten-room : rewrite_answer v order x to room ≡ accepted n → n ≤ room
  unfolding rewrite_answer
  rewritten-room e = rewritten-room-by (overlong v x) e
