-- What a value is read under, by its ways: a refusal, or an accepted type, under which a machine word holds the visits and the items.
use Rattle.std.specs.Prelude.{Result, Ok, Err}
use mathlib.Core.Path.{◌≡◌, refl, sym, ap, subst, ◌∙◌}
use mathlib.Core.List.{List, []}
use mathlib.Core.Bool.{Bool, true, false, ◌||◌}
use Prim.Native.Nat.{ℕ, ◌+◌, ◌≤◌}
use native.Mathlib.Omega.{arith}
use native.Mathlib.Nat.{mul-le-mul}
use borrow.Author.Tests.{ltb-false}
use lib.Dec.{ltb}
use lib.ListN.{length}
use Rattle.choices.specs.Branch.{choose}
use Rattle.choices.proofs.Choices.{by-test, clash, neither}
use Rattle.cdr.specs.declared.Order.{Order}
use Rattle.cdr.specs.Limit.{octets_limit}
use Rattle.type_kinds.specs.declared.Kind.{Kind}
use Rattle.typecode.specs.TypeCode.{checked_type}
use Rattle.type_laws.proofs.AcceptedAs.{AcceptedAs}
use Rattle.type_laws.proofs.Exactly39.{accepted-as}
use Rattle.value_meaning.specs.Sinks.{Source}
use Rattle.value_meaning.specs.Visit.{checked}
use Rattle.value_meaning.specs.Value.{on_type}
use Rattle.value_meaning.proofs.VisitsBounded.{visits-bound, items-bound}
use Rattle.value_typed.specs.Typed.{Typed, typed, judged_by, typed_for, FitsWords}
use Rattle.typecode.specs.declared.NoType.TheVariants.{Loop, Refused}
use Rattle.typecode.specs.declared.NoType.{NoType}

-- what follows an accepted type, or a refusal
abbrev pub on_judged : {A : Type 0} → Result (Unit {0}) ℕ → (Unit {0} → A) → (ℕ → A) → A
on_judged (Ok u) f g = f u
on_judged (Err n) f g = g n

-- the check of a type by its ways
module _ (v : List ℕ) (order : Order) (n : ℕ) where
  abbrev long : Bool
  long = ltb octets_limit (length v) || ltb octets_limit n

  pub typed_long : long ≡ true → typed (Err 42) [] ≡ typed_for v order n
  unfolding typed_for choose
  typed_long e = rw e

  pub typed-short : long ≡ false → typed (judged_by (checked_type v order).answer) (checked_type v order).kinds ≡ typed_for v order n
  unfolding typed_for choose
  typed-short e = rw e

  -- the kinds that a value is read under
  pub record Under (m : List Kind) : Type 0 where
    pub kinds : ℕ
    pub type : AcceptedAs v order kinds m
    pub met : (checked_type v order).kinds ≡ m
    pub short : n ≤ octets_limit

  under-type : (a : Result (ℕ × ℕ) NoType) → (checked_type v order).answer ≡ a → judged_by a ≡ Ok tt → n ≤ octets_limit → Under (checked_type v order).kinds
  under-type (Ok (used, k)) q e short = record { kinds = k; type = accepted-as v order used k q; met = refl; short = short }
  under-type (Err (Refused r)) q e short = clash cc
  under-type (Err Loop) q e short = clash cc

  pub under : (r : Typed) → r ≡ typed_for v order n → r.judged ≡ Ok tt → Under r.kinds
  under r e s =
      by-test long
      (λ t. let q : ◌≡◌ {A = Result (Unit {0}) ℕ} (Err 42) (Ok tt) = ap (λ (y : Typed). y.judged) (typed_long t ∙ sym e) ∙ s in clash cc)
      (λ t. let is : typed (judged_by (checked_type v order).answer) (checked_type v order).kinds ≡ r = typed-short t ∙ sym e in
      subst Under (ap (λ (y : Typed). y.kinds) is)
      (under-type (checked_type v order).answer refl (ap (λ (y : Typed). y.judged) is ∙ s)
      (ltb-false _ _ (neither (ltb octets_limit (length v)) (ltb octets_limit n) t).1)))

  module _ {A : Type 0} (f : A) (g : ℕ → A) where
    way : (b : Bool) (a : Result (ℕ × ℕ) NoType) (m : List Kind) → choose b (λ _. g 42) (λ _. on_type a (λ _. f) g)
        ≡ on_judged (choose b (λ _. typed (Err 42) []) (λ _. typed (judged_by a) m)).judged (λ _. f) g
    unfolding choose
    way true a m = refl
    way false (Ok (used, k)) m = refl
    way false (Err (Refused r)) m = refl
    way false (Err Loop) m = refl

    -- an answer by what the value is read under
    pub answer-judged : (r : Typed) → r ≡ typed_for v order n
        → choose long (λ _. g 42) (λ _. on_type (checked_type v order).answer (λ _. f) g) ≡ on_judged r.judged (λ _. f) g
    unfolding typed_for
    answer-judged r e =
        way long (checked_type v order).answer (checked_type v order).kinds ∙ ap (λ (y : Typed). on_judged y.judged (λ _. f) g) (sym e)

module _ (v : List ℕ) (order : Order) (x : Source) where
  abbrev octets : ℕ
  octets = length x.octets

  -- under an accepted type a machine word holds the visits and the items
  pub bounded : (m : List Kind) → Under v order octets m → FitsWords (checked v m) x
  bounded m u =
      record {
        visits = λ full. let b = visits-bound full x v order u.kinds m u.type in
            let s = mul-le-mul u.type.most (suc-le u.short) in omega arith;
        items = λ full. let b = items-bound full x v order u.kinds m u.type in omega (arith, u.short);
      }
    where
      suc-le : {i j : ℕ} → i ≤ j → i + 1 ≤ j + 1
      suc-le h = omega arith
