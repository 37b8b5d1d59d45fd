-- What stands at an index of an encapsulation, by the octets v of the whole TypeCode and the place b where the encapsulation starts.
-- Nothing is judged here. The octets from b on go past the encapsulation: a kind that was read to its end lies inside it, and of a union
-- that is asked for its own discriminant it only matters that it is none.
--   place_of        a place in the whole TypeCode
--   written_at      the kind that is written at a place, in an encapsulation of a start and an order
--   place_in        the place of a type inside another, an indirection counting as its target
--   on_field        what follows a number
--   on_skip         what follows something passed over
--   on_spot         what follows a type
--   field_in        a number
--   skip_field      a number passed over
--   skip_octets       counted octets as something passed over
--   skip_counted    a text or an encapsulation passed over by its length
--   skip_kind       what follows a kind of a form passed over
--   place_before         the place of an unsigned long that ends before an index
--   long_range      how many longs there are; those from half of it on are negative
--   target_of       "the offset's own place plus the offset", a long, if a machine word holds it
--   aimed_at        the target's place, if there is one
--   aimed          the target of the indirection whose offset is at an index
--   spot_at         the type that stands at an index, a kind that is written there or an indirection; and the index after it
--   lead_in         the label before a member's name, where members have labels, passed over
--   member_at       a member: a label where there are labels, a name, a type
--   names_in        id and name passed over, the first two parameters of all but a sequence and an array
use Rattle.std.specs.Prelude.{◌+◌, ◌-◌, ◌/◌, ◌^◌, Option, Some, None}
use Rattle.choices.specs.{ℕ, List, cond, ltb, eqb, drop}
use Rattle.cdr.specs.{Index, Place, Order, Size, Four, index_of}
use Rattle.cdr_fields.specs.{field_of, counted_of}
use Rattle.type_kinds.specs.Names.{Form, Unlisted, Plain, Bounded, Composite, Kind, Inner, Here}
use Rattle.type_kinds.specs.Names.{There, Labels, Of, NoLabels}
use Rattle.type_kinds.specs.Forms.{form_of}
use Rattle.type_numbers.specs.{indirection_kind}

abbrev pub place_of : ℕ → Place
place_of p = record { 0 = p }

abbrev pub written_at : Place → Place → Order → Kind
written_at p b order = record { place = p; start = b; order = order }

abbrev pub place_in : Inner → Place
place_in (Here a) = a.place
place_in (There p) = p

abbrev pub on_field : {A : Type 0} → Option (ℕ × Index) → A → (ℕ → Index → A) → A
on_field (Some (x, next)) a f = f x next
on_field None a f = a

abbrev pub on_skip : {A : Type 0} → Option Index → A → (Index → A) → A
on_skip (Some next) a f = f next
on_skip None a f = a

abbrev pub on_spot : {A : Type 0} → Option (Inner × Index) → A → (Inner → Index → A) → A
on_spot (Some (x, next)) a f = f x next
on_spot None a f = a

unfoldable pub field_in : List ℕ → Place → Index → Size → Order → Option (ℕ × Index)
field_in v b i size order = field_of (drop b.0 v) i size order

unfoldable pub skip_field : List ℕ → Place → Index → Size → Order → Option Index
skip_field v b i size order = on_field (field_in v b i size order) None (λ x next. Some next)

abbrev pub skip_octets : Option (Index × ℕ) → Option Index
skip_octets (Some (from, n)) = Some (index_of (from.0 + n))
skip_octets None = None

unfoldable pub skip_counted : List ℕ → Place → Index → Order → Option Index
skip_counted v b i order = skip_octets (counted_of (drop b.0 v) i order)

abbrev pub skip_kind : Form → List ℕ → Place → Index → Order → Option Index
skip_kind Unlisted v b i order = None
skip_kind Plain v b i order = Some i
skip_kind Bounded v b i order = skip_field v b i Four order
skip_kind (Composite layout) v b i order = skip_counted v b i order

abbrev pub place_before : Place → Index → Place
place_before b next = place_of (b.0 + (next.0 - 4))

abbrev pub long_range : ℕ
long_range = 2 ^ 32

unfoldable pub target_of : Place → ℕ → Option Place
target_of p x =
    cond (ltb x (long_range / 2)) (cond (ltb (p.0 + x) (2 ^ 64)) (Some (place_of (p.0 + x))) None)
    (cond (ltb p.0 (long_range - x)) None (Some (place_of (p.0 - (long_range - x)))))

abbrev pub aimed_at : Option Place → Index → Option (Inner × Index)
aimed_at (Some p) next = Some (There p, next)
aimed_at None next = None

unfoldable pub aimed : List ℕ → Place → Index → Order → Option (Inner × Index)
aimed v b i order = on_field (field_in v b i Four order) None (λ x next. aimed_at (target_of (place_before b next) x) next)

unfoldable pub spot_at : List ℕ → Place → Index → Order → Option (Inner × Index)
spot_at v b i order =
    on_field (field_in v b i Four order) None (λ kind next.
    cond (eqb kind indirection_kind)
    (aimed v b next order)
    (on_skip (skip_kind (form_of kind) v b next order) None (λ over. Some (Here (written_at (place_before b next) b order), over))))

abbrev pub lead_in : Labels → List ℕ → Place → Index → Order → Option Index
lead_in (Of size limit) v b i order = skip_field v b i size order
lead_in NoLabels v b i order = Some i

unfoldable pub member_at : Labels → List ℕ → Place → Index → Order → Option (Inner × Index)
member_at labels v b i order =
    on_skip (lead_in labels v b i order) None (λ h. on_skip (skip_counted v b h order) None (λ j. spot_at v b j order))

unfoldable pub names_in : List ℕ → Place → Order → Option Index
names_in v b order = on_skip (skip_counted v b (index_of 1) order) None (λ i. skip_counted v b i order)
