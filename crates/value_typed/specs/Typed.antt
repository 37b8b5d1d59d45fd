-- "The type is checked first, with the same number if refused"; 42 "comes before the type check".
--   Typed       a judgement, which is 01's number for a refusal, and the kinds of an accepted type; `typed` the same from its parts,
--               `typed_by` what the struct that the code gives stands for
--   judged_by    what a type's check means for a value of it
--   typed_for    what a value of so many octets is read under
--   FitsWords   a machine word holds the visits and the items of every reading
use Rattle.std.specs.Prelude.{◌^◌, ◌<◌, ◌||◌, Result, Ok, Err}
use Rattle.choices.specs.{ℕ, List, [], Bool, ltb, length, choose}
use Rattle.cdr.specs.{Order, octets_limit}
use Rattle.type_kinds.specs.{Kind}
use Rattle.type_list.specs.Arrays.{kinds_met}
use Rattle.typecode.specs.{TypeCode.checked_type}
use Rattle.value_meaning.specs.{Source, reading, Visit.Checked, Value.on_type}
use Rattle.value_typed.specs.declared.Typed as given
use Rattle.typecode.specs.declared.NoType.{NoType}

pub record Typed : Type 0 where
  pub judged : Result (Unit {0}) ℕ
  pub kinds : List Kind

abbrev pub typed : Result (Unit {0}) ℕ → List Kind → Typed
typed judged ks = record { judged = judged; kinds = ks }

abbrev pub typed_by : given.Typed → Typed
typed_by c = typed c.judged (kinds_met c.met)

abbrev pub judged_by : Result (ℕ × ℕ) NoType → Result (Unit {0}) ℕ
judged_by a = on_type a (λ _. Ok tt) Err

unfoldable pub typed_for : List ℕ → Order → ℕ → Typed
typed_for v order n =
    choose (ltb octets_limit (length v) || ltb octets_limit n)
    (λ _. typed (Err 42) [])
    (λ _. typed (judged_by (checked_type v order).answer) (checked_type v order).kinds)

pub record FitsWords (t : Checked) (x : Source) : Type 0 where
  pub visits : (full : ℕ → Bool) → (reading full x t).kept.visits < 2 ^ 64
  pub items : (full : ℕ → Bool) → length (reading full x t).kept.items < 2 ^ 64
