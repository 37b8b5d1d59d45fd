-- "A type nested in another is itself a TypeCode and is checked by the same rules": the check of a TypeCode in the octets s of the
-- encapsulation it stands in, which starts at the place b of the whole octets v and has an order; and of all that stands inside it, in
-- octet order.
--   target_step        36: "target not the place of a kind already met (an indirection is none), or one still being read that is neither
--                     struct nor union"; the list of kinds met has no indirections
--   aimed_step         the same of an offset's target
--   indirection_at     "at an indirection itself, 30 and 36 alone"
--   Checker           a check of the types one level down
--   name_step          a member's name behind its label, if there are labels
--   members_at         so many members: a label if there are labels, a name, a type; `done` of them stand before, from `first` on
--   labels_at          what the discriminant at an index says of labels
--   switch_head        35 for a discriminant of another kind, then default and count
--   cases_then         what follows them, unless they are refused
--   switched_at        what follows a discriminant: default, count and members
--   discriminant_at    a union's discriminant and what follows it
--   contents_at        what an encapsulation of a layout holds: "objref: id, name. Alias: id, name, type." and so on
--   ended_at           33: "parameters that don't end with it"
--   part_then          what follows the head of an encapsulation, unless that is refused
--   composite_at       an encapsulation, whose octets "go on to the next reader as that part alone"
--   inside_at          what follows a kind of a form; one that is not listed is not entered
--   entered_at         a kind is met, and what follows it is checked
--   Enterer           a check of what follows a kind of a form
--   on_entry           what follows where a kind may stand, unless it may not
--   type_with            an indirection, or a kind that may stand there
--   enter_at           a kind of a form with so many levels left; with none left no kind may stand there
--   type_at            a TypeCode with so many levels left
--   walked_of          the check of octets as a TypeCode: "42 over 16,384 octets (before all else)"
use Rattle.std.specs.Prelude.{◌+◌, ◌-◌, Option, Some, None, Result, Ok, Err}
use Rattle.choices.specs.{ℕ, zero, suc, List, false, cond, ltb, eqb, length, get_or, take, drop, choose}
use Rattle.cdr.specs.{octets_limit, Index, Place, Order, Four, index_of}
use Rattle.cdr_fields.specs.{field_of}
use Rattle.type_kinds.specs.{Form, Unlisted, Plain, Bounded, Composite, Layout, Labels, Of, NoLabels, Kind, place_of}
use Rattle.type_kinds.specs.{place_in, on_field, Forms.form_of, Parts.on_spot, Parts.place_before, Parts.target_of, Parts.spot_at}
use Rattle.type_numbers.specs.{indirection_kind}
use Rattle.type_kinds.specs.declared.Layout.TheVariants.{Objref, Struct, Union, Enum, Sequence, Array, Alias, Exception}
use Rattle.type_list.specs.{Met.find_kind}
use Rattle.type_unions.specs.{Discriminants.labels_for, Arms.no_default}
use Rattle.type_counts.specs.{Ends, NoSuchKind, BadEncapsulation, BadUnion, BadTarget, TooDeep, TooLong}
use Rattle.type_counts.specs.Counts.{then_step, text_step, names_step, number_step, length_step, head_step, exception_step, enum_step, part_of}
use Rattle.type_fields.specs.Fields.{nesting_limit, kind_entry, switch_step, label_step}
use Rattle.type_walk.specs.Walk.{Walk, Walked, nothing_met, entered, closed_at, refused_as, goes_on_at, on_step, count_then, after_type}
use Rattle.type_counts.specs.declared.Refusal.{Refusal}

unfoldable pub target_step : Walk → Place → Index → Walked
target_step w p next =
    cond (ltb (find_kind w.kinds p) (length w.kinds))
    (cond (get_or w.barred (find_kind w.kinds p) false) (refused_as BadTarget w) (goes_on_at next w))
    (refused_as BadTarget w)

abbrev pub aimed_step : Option Place → Walk → Index → Walked
aimed_step (Some p) w next = target_step w p next
aimed_step None w next = refused_as BadTarget w

unfoldable pub indirection_at : List ℕ → Place → Order → Index → Walk → Walked
indirection_at s b order i w =
    on_field (field_of s i Four order) (refused_as Ends w) (λ x next. aimed_step (target_of (place_before b next) x) w next)

abbrev pub Checker : Type 0
Checker = List ℕ → Place → Order → Index → Walk → Walked

unfoldable pub name_step : Labels → List ℕ → List ℕ → Place → Order → ℕ → ℕ → Index → Index → Result Index Refusal
name_step labels v s b order default done first i = then_step (label_step labels v s b order default done first i) (λ h. text_step s h order)

unfoldable pub members_at : List ℕ → Checker → Labels → ℕ → List ℕ → Place → Order → Index → ℕ → ℕ → Index → Walk → Walked
members_at v go sort default s b order first zero done i w = goes_on_at i w
members_at v go sort default s b order first (suc n) done i w =
    on_step (name_step sort v s b order default done first i) w (λ j.
    after_type (go s b order j w) (λ k w'. members_at v go sort default s b order first n (done + 1) k w'))

unfoldable pub labels_at : List ℕ → List Kind → Place → Index → Order → Labels
labels_at v ks b i order = on_spot (spot_at v b i order) NoLabels (λ x next. labels_for v ks (place_in x))

abbrev pub switch_head : Labels → List ℕ → Index → Order → Result (ℕ × ℕ × Index) Refusal
switch_head NoLabels s i order = Err BadUnion
switch_head (Of size limit) s i order = switch_step s i order

abbrev pub cases_then : Result (ℕ × ℕ × Index) Refusal → Walk → (ℕ → ℕ → Index → Walked) → Walked
cases_then (Err r) w f = refused_as r w
cases_then (Ok (default, n, next)) w f = f default n next

unfoldable pub switched_at : List ℕ → Checker → Labels → List ℕ → Place → Order → Index → Walk → Walked
switched_at v go labels s b order i w =
    cases_then (switch_head labels s i order) w (λ default n next. members_at v go labels default s b order next n 0 next w)

unfoldable pub discriminant_at : List ℕ → Checker → List ℕ → Place → Order → Index → Walk → Walked
discriminant_at v go s b order i w =
    after_type (go s b order i w) (λ j w'. switched_at v go (labels_at v w'.kinds b i order) s b order j w')

abbrev pub contents_at : List ℕ → Checker → Layout → List ℕ → Place → Order → Walk → Walked
contents_at v go Objref s b order w = on_step (names_step s order) w (λ i. goes_on_at i w)
contents_at v go Alias s b order w = on_step (names_step s order) w (λ i. go s b order i w)
contents_at v go Struct s b order w =
    count_then (head_step s order) w (λ n next. members_at v go NoLabels no_default s b order next n 0 next w)
contents_at v go Exception s b order w =
    count_then (exception_step s order) w (λ n next. members_at v go NoLabels no_default s b order next n 0 next w)
contents_at v go Union s b order w =
    on_step (names_step s order) w (λ i. discriminant_at v go s b order i w)
contents_at v go Enum s b order w = on_step (enum_step s order) w (λ i. goes_on_at i w)
contents_at v go Sequence s b order w =
    after_type (go s b order (index_of 1) w) (λ i w'. on_step (number_step s i order) w' (λ next. goes_on_at next w'))
contents_at v go Array s b order w =
    after_type (go s b order (index_of 1) w) (λ i w'. on_step (length_step s i order) w' (λ next. goes_on_at next w'))

unfoldable pub ended_at : ℕ → ℕ → ℕ → Walked → Walked
ended_at here n e c = after_type c (λ i w. cond (eqb i.0 n) (goes_on_at (index_of e) (closed_at w here)) (refused_as BadEncapsulation w))

abbrev pub part_then : Result (ℕ × ℕ × Order) Refusal → Walk → (ℕ → ℕ → Order → Walked) → Walked
part_then (Err r) w f = refused_as r w
part_then (Ok (x, e, order)) w f = f x e order

unfoldable pub composite_at : List ℕ → Checker → Layout → List ℕ → Place → Order → Index → Walk → ℕ → Walked
composite_at v go layout s b order i w here =
    part_then (part_of s i order) w (λ x e o.
    ended_at here (e - x) e (contents_at v go layout (take (e - x) (drop x s)) (place_of (b.0 + x)) o w))

abbrev pub inside_at : List ℕ → Checker → Form → List ℕ → Place → Order → Index → Walk → ℕ → Walked
inside_at v go Unlisted s b order i w here = refused_as NoSuchKind w
inside_at v go Plain s b order i w here = goes_on_at i (closed_at w here)
inside_at v go Bounded s b order i w here = on_step (number_step s i order) w (λ next. goes_on_at next (closed_at w here))
inside_at v go (Composite layout) s b order i w here = composite_at v go layout s b order i w here

unfoldable pub entered_at : List ℕ → Checker → Form → List ℕ → Place → Order → Index → Walk → Walked
entered_at v go form s b order next w = inside_at v go form s b order next (entered w (place_before b next) b order form) (length w.kinds)

abbrev pub Enterer : Type 0
Enterer = Form → List ℕ → Place → Order → Index → Walk → Walked

abbrev pub on_entry : Result Unit Refusal → Walk → (Unit {0} → Walked) → Walked
on_entry (Err r) w f = refused_as r w
on_entry (Ok tt) w f = f tt

unfoldable pub type_with : ℕ → Enterer → Checker
type_with left enter s b order i w =
    on_field (field_of s i Four order) (refused_as Ends w) (λ kind next.
    choose (eqb kind indirection_kind)
    (λ _. indirection_at s b order next w)
    (λ _. on_entry (kind_entry (form_of kind) kind left (length w.kinds)) w (λ _. enter (form_of kind) s b order next w)))

unfoldable pub enter_at : List ℕ → ℕ → Enterer
enter_at v zero form s b order next w = refused_as TooDeep w
enter_at v (suc left) form s b order next w = entered_at v (type_with left (enter_at v left)) form s b order next w

unfoldable pub type_at : List ℕ → ℕ → Checker
type_at v left = type_with left (enter_at v left)

unfoldable pub walked_of : List ℕ → Order → Walked
walked_of v order =
    choose (ltb octets_limit (length v)) (λ _. refused_as TooLong nothing_met) (λ _. type_at v nesting_limit v (place_of 0) order (index_of 0) nothing_met)
