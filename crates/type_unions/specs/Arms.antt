-- "Union: discriminant, then the member with that label, else the default, else none": which of a union's members a number chooses. A label
-- is equal to an earlier one exactly when it would choose the earlier member.
--   counts       the label of the member of number j counts: "two equal labels (the default member's label included)"
--   is_sought     the member of number j, y being its label, is sought by a label that counts, or by its number
--   first_sought  the first of the members, numbered from j on, that is sought
--   case_of       the member with the label x
--   member_no     the member of a number, counted from 0
--   no_default    "-1 for none", as an unsigned long
--   default_of    the default member, if there is one
--   on_arm        what follows a member, and what follows none
--   chosen_of     "the member with that label, else the default, else none"
use Rattle.std.specs.Prelude.{◌+◌, ◌-◌, ◌∷◌, ◌&&◌, Option, Some, None}
use Rattle.choices.specs.{ℕ, List, [], Bool, true, eqb, choose}
use Rattle.type_kinds.specs.{Inner, Member, long_range}
use Rattle.type_unions.specs.{declared.Sought.Sought, declared.Sought.TheVariants.ByLabel, declared.Sought.TheVariants.ByNumber}

abbrev pub counts : ℕ → ℕ → Bool
counts default j = true

abbrev pub is_sought : Sought → ℕ → ℕ → Bool
is_sought (ByLabel default x) j y = counts default j && eqb y x
is_sought (ByNumber n) j y = eqb j n

unfoldable pub first_sought : Sought → ℕ → List Member → Option Inner
first_sought sought j [] = None
first_sought sought j (m ∷ ms) =
    choose (is_sought sought j m.label) (λ _. Some m.type) (λ _. first_sought sought (j + 1) ms)

abbrev pub case_of : ℕ → ℕ → List Member → Option Inner
case_of default x ms = first_sought (ByLabel default x) 0 ms

unfoldable pub member_no : List Member → ℕ → Option Inner
member_no ms n = first_sought (ByNumber n) 0 ms

abbrev pub no_default : ℕ
no_default = long_range - 1

unfoldable pub default_of : List Member → ℕ → Option Inner
default_of ms default = choose (eqb default no_default) (λ _. None) (λ _. member_no ms default)

abbrev pub on_arm : {A : Type 0} → Option Inner → (Inner → A) → A → A
on_arm (Some x) f a = f x
on_arm None f a = a

unfoldable pub chosen_of : List Member → ℕ → ℕ → Option Inner
chosen_of ms default x = on_arm (case_of default x ms) (λ t. Some t) (default_of ms default)
