-- The member that a union chooses is one of its members.
use Rattle.std.specs.Prelude.{Option, Some, None}
use mathlib.Core.List.{List, [], ◌∷◌}
use Prim.Native.Nat.{ℕ, ◌+◌}
use lib.Dec.{eqb}
use Rattle.choices.specs.Lists.{All}
use Rattle.type_kinds.specs.declared.Inner.{Inner}
use Rattle.type_kinds.specs.Members.{Member, types_of}
use Rattle.type_unions.specs.declared.Sought.{Sought}
use Rattle.type_unions.specs.declared.Sought.TheVariants.{ByLabel, ByNumber}
use Rattle.type_unions.specs.Arms.{is_sought, first_sought, case_of, member_no, no_default, default_of, on_arm, chosen_of}
use Rattle.value_meaning.proofs.ByChoice.{by-choice}

module _ (P : Inner → Type 0) where
  abbrev pub ArmIs : Option Inner → Type 0
  ArmIs (Some x) = P x
  ArmIs None = Unit {0}

  sought-is : (sought : Sought) (j : ℕ) (ms : List Member) → All P (types_of ms) → ArmIs (first_sought sought j ms)
  unfolding first_sought types_of
  sought-is sought j [] h = tt
  sought-is sought j (m ∷ ms) h = by-choice ArmIs (is_sought sought j m.label) (λ _. h.0) (λ _. sought-is sought (j + 1) ms h.1)

  default-is : (default : ℕ) (ms : List Member) → All P (types_of ms) → ArmIs (default_of ms default)
  unfolding default_of member_no
  default-is default ms h = by-choice ArmIs (eqb default no_default) (λ _. tt) (λ _. sought-is (ByNumber default) 0 ms h)

  or_is : (a b : Option Inner) → ArmIs a → ArmIs b → ArmIs (on_arm a Some b)
  or_is (Some x) b h k = h
  or_is None b h k = k

  -- what holds of every member's type holds of the chosen one's
  pub chosen_is : (default x : ℕ) (ms : List Member) → All P (types_of ms) → ArmIs (chosen_of ms default x)
  unfolding chosen_of
  chosen_is default x ms h = or_is (case_of default x ms) (default_of ms default) (sought-is (ByLabel default x) 0 ms h) (default-is default ms h)
