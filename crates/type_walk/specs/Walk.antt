-- What a check has met so far, and how it goes on.
--   Walk           the kinds met, in order, and of each whether it is no target yet
--   Walked         where a check goes on, or why it does not; and what it has met
--   seen           what the struct that the code keeps stands for; `seen_as` the same with where the check goes on
--   nothing_met     no kind met
--   layout_barred   a layout whose kinds are no target while they are read: "one still being read that is neither struct nor union"
--   is_barred       the same of a form; what holds no type is read to its end before an indirection can follow
--   entered        one more kind met, still being read
--   closed_at         the kind at a position is read to its end
--   refused_as      the check ends with a refusal
--   goes_on_at         the check goes on at an index
--   on_step         what follows, unless it is refused
--   count_then      what follows a count, unless it is refused
--   after_type          what follows a type that was checked
use Rattle.std.specs.Prelude.{◌∷◌, ◌++◌, Result, Ok, Err}
use Rattle.choices.specs.{ℕ, List, [], Bool, true, false, length, set, take}
use Rattle.cdr.specs.{Index, Place, Order}
use Rattle.type_kinds.specs.{Kind, Form, Unlisted, Plain, Bounded, Composite, Layout, written_at}
use Rattle.type_kinds.specs.declared.Layout.TheVariants.{Objref, Struct, Union, Enum, Sequence, Array, Alias, Exception}
use Rattle.type_list.specs.Arrays.{kinds_met}
use Rattle.type_counts.specs.{Refusal}
use Rattle.type_walk.specs.declared.Walk as kept
use Rattle.type_walk.specs.declared.Walked as left

pub record Walk : Type 0 where
  pub kinds : List Kind
  pub barred : List Bool

pub record Walked : Type 0 where
  pub step : Result Index Refusal
  pub walk : Walk

abbrev pub seen : kept.Walk → Walk
seen w = record { kinds = kinds_met w.met; barred = take (length (kinds_met w.met)) w.barred }

abbrev pub seen_as : left.Walked → Walked
seen_as c = record { step = c.step; walk = seen c.walk }

abbrev pub nothing_met : Walk
nothing_met = record { kinds = []; barred = [] }

abbrev pub layout_barred : Layout → Bool
layout_barred Objref = true
layout_barred Struct = false
layout_barred Union = false
layout_barred Enum = true
layout_barred Sequence = true
layout_barred Array = true
layout_barred Alias = true
layout_barred Exception = true

abbrev pub is_barred : Form → Bool
is_barred Unlisted = true
is_barred Plain = true
is_barred Bounded = true
is_barred (Composite layout) = layout_barred layout

unfoldable pub entered : Walk → Place → Place → Order → Form → Walk
entered w p b order form = record { kinds = w.kinds ++ (written_at p b order ∷ []); barred = w.barred ++ (is_barred form ∷ []) }

unfoldable pub closed_at : Walk → ℕ → Walk
closed_at w here = record { kinds = w.kinds; barred = set w.barred here false }

abbrev pub refused_as : Refusal → Walk → Walked
refused_as r w = record { step = Err r; walk = w }

abbrev pub goes_on_at : Index → Walk → Walked
goes_on_at i w = record { step = Ok i; walk = w }

abbrev pub on_step : Result Index Refusal → Walk → (Index → Walked) → Walked
on_step (Err r) w f = refused_as r w
on_step (Ok i) w f = f i

abbrev pub count_then : Result (ℕ × Index) Refusal → Walk → (ℕ → Index → Walked) → Walked
count_then (Err r) w f = refused_as r w
count_then (Ok (n, next)) w f = f n next

abbrev pub after_type : Walked → (Index → Walk → Walked) → Walked
after_type c f = on_step c.step c.walk (λ i. f i c.walk)
