-- Where a kind may stand: 31, 40, 38 and 37; and a union's default and labels, checked in an encapsulation's own octets s, index 0 first: 30,
-- 34 and 35.
--   top_only          "null, void or exception"
--   is_listed         a kind that is listed
--   nesting_limit     "nesting over 16 (the top is 1)": the levels left at the top
--   below_top         a kind that only the top may have, where fewer levels are left than at the top
--   kind_entry        whether a kind may stand where it does, with so many levels left and kinds met: "at one kind the order is 31, 40,
--                    38, 37"
--   bad_default       "default below -1 or not below count", a long
--   switch_from       a default "tested after the count"
--   switch_step       default and count of a union
--   label_before      a label is that of one of the `done` members before it, from `first` on; they were checked, and are read again over the
--                    whole octets v, from the place b of their encapsulation on
--   label_step        a label before a member: 30, then, if it counts, 35 "out of its kind" or equal to one before it
use Rattle.std.specs.Prelude.{◌/◌, ◌||◌, Result, Ok, Err}
use Rattle.choices.specs.{ℕ, List, Bool, true, false, cond, not, leb, eqb}
use Rattle.cdr.specs.{Index, Place, Order, Four}
use Rattle.cdr_fields.specs.{field_of}
use Rattle.type_kinds.specs.{Form, Unlisted, Plain, Bounded, Composite, Labels, Of, NoLabels, on_field, long_range, members_of}
use Rattle.type_parameters.specs.{Parameters.member_fields}
use Rattle.type_numbers.specs.Kinds.{kinds_limit, null_kind, void_kind, exception_kind}
use Rattle.type_unions.specs.{Discriminants.out_of_kind, Arms.counts, Arms.case_of, Arms.no_default, Arms.on_arm}
use Rattle.type_counts.specs.{Ends, NoSuchKind, BadUnion, TooManyKinds, TooDeep, BelowTop}
use Rattle.type_counts.specs.Counts.{count_step}
use Rattle.type_counts.specs.declared.Refusal.{Refusal}

abbrev pub top_only : ℕ → Bool
top_only kind = eqb kind null_kind || (eqb kind void_kind || eqb kind exception_kind)

abbrev pub is_listed : Form → Bool
is_listed Unlisted = false
is_listed Plain = true
is_listed Bounded = true
is_listed (Composite layout) = true

abbrev pub nesting_limit : ℕ
nesting_limit = 16

unfoldable pub below_top : ℕ → ℕ → Bool
below_top kind left = cond (eqb left nesting_limit) false (top_only kind)

unfoldable pub kind_entry : Form → ℕ → ℕ → ℕ → Result Unit Refusal
kind_entry form kind left count =
    cond (not (is_listed form)) (Err NoSuchKind)
    (cond (below_top kind left) (Err BelowTop)
    (cond (eqb left 0) (Err TooDeep)
    (cond (leb kinds_limit count) (Err TooManyKinds)
    (Ok tt))))

unfoldable pub bad_default : ℕ → ℕ → Bool
bad_default d n = cond (eqb d no_default) false (cond (leb (long_range / 2) d) true (leb n d))

abbrev pub switch_from : ℕ → Result (ℕ × Index) Refusal → Result (ℕ × ℕ × Index) Refusal
switch_from d (Err r) = Err r
switch_from d (Ok (n, next)) = cond (bad_default d n) (Err BadUnion) (Ok (d, n, next))

unfoldable pub switch_step : List ℕ → Index → Order → Result (ℕ × ℕ × Index) Refusal
switch_step s i order = on_field (field_of s i Four order) (Err Ends) (λ d j. switch_from d (count_step s j order))

unfoldable pub label_before : Labels → List ℕ → Place → Order → ℕ → ℕ → Index → ℕ → Bool
label_before labels v b order default done first x = on_arm (case_of default x (members_of labels v (member_fields b order done first))) (λ _. true) false

abbrev pub label_step : Labels → List ℕ → List ℕ → Place → Order → ℕ → ℕ → Index → Index → Result Index Refusal
label_step NoLabels v s b order default done first i = Ok i
label_step (Of size limit) v s b order default done first i =
    on_field (field_of s i size order) (Err Ends) (λ x next.
    cond (counts default done)
    (cond (out_of_kind limit x) (Err BadUnion)
    (cond (label_before (Of size limit) v b order default done first x) (Err BadUnion)
    (Ok next)))
    (Ok next))
