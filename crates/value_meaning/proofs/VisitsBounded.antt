-- The visits of a reading are at most k * (n + 1), with k kinds and n octets: between two octets taken, kinds of falling ranks are entered.
use Rattle.std.specs.Prelude.{Option, Some, None}
use mathlib.Core.Path.{◌≡◌, refl, sym, ap, subst}
use mathlib.Core.List.{List, [], ◌∷◌}
use mathlib.Core.Bool.{Bool, true, false, ◌||◌, true≢false}
use Prim.Native.Nat.{ℕ, zero, suc, ◌+◌, ◌-◌, ◌*◌, ◌≤◌, ◌<◌}
use native.Mathlib.Omega.{arith}
use native.Mathlib.Nat.{mul-le-mul_left, mul-add}
use borrow.Author.Tests.{eq-eqb, le-ltb, eqb-false}
use lib.Dec.{ltb, eqb}
use lib.ListN.{length}
use Rattle.choices.specs.Branch.{choose}
use Rattle.choices.specs.Lists.{any_of, All}
use Rattle.choices.proofs.Choices.{by-test, clash, neither}
use Rattle.cdr.specs.declared.Order.{Order}
use Rattle.type_kinds.specs.declared.Inner.{Inner}
use Rattle.type_kinds.specs.declared.Inner.TheVariants.{There}
use Rattle.type_kinds.specs.declared.Inert.TheVariants.{Leaf, Text, Objref, Enum}
use Rattle.type_kinds.specs.declared.Labels.TheVariants.{NoLabels}
use Rattle.type_parameters.specs.declared.Parameters.{Parameters}
use Rattle.type_parameters.specs.declared.Parameters.TheVariants.{Fault, Flat, Struct, Exception, Union, Sequence, Array, Alias}
use Rattle.type_kinds.specs.declared.Kind.{Kind}
use Rattle.type_kinds.specs.Parts.{place_of, place_in}
use Rattle.type_kinds.specs.Members.{Member, types_of, members_of}
use Rattle.type_loops.proofs.RankFalls.{rank}
use Rattle.type_list.specs.Met.{find_kind, parameters_of}
use Rattle.type_unions.specs.Discriminants.{labels_for}
use Rattle.type_unions.specs.Arms.{on_arm, chosen_of}
use Rattle.type_unions.specs.Shapes.Shape.{flat}
use Rattle.type_unions.specs.Shapes.{Shape, shape_of, look}
use Rattle.type_laws.proofs.ListGrows.{find_at}
use Rattle.type_fields.specs.Fields.{top_only}
use Rattle.type_steps.specs.Steps.{stands, any_stands, steps_of, leads, steps}
use Rattle.type_laws.proofs.Sound.{Known, NotTop, Fitting, Sound}
use Rattle.type_laws.proofs.AcceptedAs.{AcceptedAs}
use Rattle.value_meaning.specs.Sinks.{Source, Sink, St, and_then, begun}
use Rattle.value_meaning.specs.Visit.{Checked, checked, leaf_at, count_at, inert_at}
use Rattle.value_meaning.specs.Opens.{Node, node, node_at, Open, Next, on_next, next, entries, own_of, unless, opens, closes, shuts}
use Rattle.value_meaning.specs.Opens.{enter_node, reads_node}
use Rattle.value_meaning.specs.Opens.Open.{shut, each, row, pick}
use Rattle.value_meaning.specs.Opens.Next.{over, into}
use Rattle.value_meaning.specs.Reading.{Log, logging, levels, at_start, top_of, reads, reading}
use Rattle.value_meaning.proofs.ReadingCases.{unless-is}
use Rattle.value_meaning.proofs.ChosenIsMember.{ArmIs, chosen_is}
use Rattle.value_meaning.proofs.VisitsSpent.{items_of, visits_of, Within, Spent, weaker, nothing-spent, refused-here, after-spent}
use Rattle.value_meaning.proofs.VisitsSpent.{inert-spent, count-spent}

-- ---- kinds of which a value has an octet at least: all but null and void

abbrev Takes : Parameters → Type 0
Takes a = (kind : ℕ) → a ≡ Flat (Leaf kind) → ltb kind 2 ≡ false

leaf-takes : (kind : ℕ) → top_only kind ≡ false → ltb kind 2 ≡ false
leaf-takes kind e =
    let a = neither (eqb kind 0) (eqb kind 1 || eqb kind 22) e in
    let b = neither (eqb kind 1) (eqb kind 22) a.1 in
    let c = eqb-false kind 0 a.0 in
    let d = eqb-false kind 1 b.0 in
    le-ltb kind 2 (omega arith)

fitting-takes : (a : Parameters) → NotTop a → Takes a
fitting-takes a h kind e = leaf-takes kind (subst NotTop e h)

takes-or-not : {G : Type 0} (a : Parameters) → (Takes a → G) → ((kind : ℕ) → a ≡ Flat (Leaf kind) → ltb kind 2 ≡ true → G) → G
takes-or-not (Flat (Leaf kind)) f g = by-test (ltb kind 2) (g kind refl) (λ t. f (λ j e. let z : kind ≡ j = cc in subst (λ (i : ℕ). ltb i 2 ≡ false) z t))
takes-or-not (Flat (Text bound)) f g = f (λ j e. clash cc)
takes-or-not (Flat Objref) f g = f (λ j e. clash cc)
takes-or-not (Flat (Enum names)) f g = f (λ j e. clash cc)
takes-or-not Fault f g = f (λ j e. clash cc)
takes-or-not (Struct h) f g = f (λ j e. clash cc)
takes-or-not (Exception h) f g = f (λ j e. clash cc)
takes-or-not (Union h d default) f g = f (λ j e. clash cc)
takes-or-not (Sequence x bound) f g = f (λ j e. clash cc)
takes-or-not (Array x n) f g = f (λ j e. clash cc)
takes-or-not (Alias x) f g = f (λ j e. clash cc)

or_left : (a b : Bool) → a ≡ true → (a || b) ≡ true
or_left true b e = refl
or_left false b e = absurd (true≢false (sym e))

some-types : (ms : List Member) → 0 < length ms → 0 < length (types_of ms)
unfolding types_of
some-types [] h = absurd (omega arith)
some-types (m ∷ ms) h = omega arith

-- ---- an octet pays for K visits, under every accepted type of at most K kinds

module _ (full : ℕ → Bool) (x : Source) (K : ℕ) where
  abbrev sink : Sink Log
  sink = logging full

  abbrev rank_of : ℕ → List ℕ → List Kind → ℕ → ℕ
  rank_of k v m j = rank k (steps v m) j

  -- a type below the top is read within its rank
  abbrev Ranked : (Node → St Log → St Log) → Type 0
  Ranked f =
      (v : List ℕ) (order : Order) (k : ℕ) (m : List Kind) → AcceptedAs v order k m → k ≤ K → (y : Inner) → Fitting v m y → (s : St Log) → Within x s
      → Spent K x (rank_of k v m (find_kind m (place_in y))) s (f (node_at (checked v m) y) s)

  module _ (v : List ℕ) (order : Order) (k : ℕ) (m : List Kind) (type : AcceptedAs v order k m) (few : k ≤ K) where
    abbrev t : Checked
    t = checked v m

    abbrev R : ℕ → ℕ
    R j = rank_of k v m j

    abbrev at : Inner → ℕ
    at y = find_kind m (place_in y)

    stands-there : (y : Inner) → stands m (place_in y) (at y) ≡ true
    stands-there y = eq-eqb (at y) (at y) refl

    rank-few : (y : Inner) → Fitting v m y → R (at y) ≤ K
    rank-few y h = let a = (type.ranked (at y) (type.listed y h.0)).1 in omega arith

    -- what is open leads to types below the top alone, as often as it can be entered
    abbrev GoodBy : (Open → Type 0) → Next → Type 0
    GoodBy G over = Unit {0}
    GoodBy G (into y o) = Fitting v m y × G o

    abbrev Good : ℕ → Open → Type 0
    Good zero o = Unit {0}
    Good (suc n) o = (last : ℕ) → GoodBy (Good n) (next o last)

    each-good : (y : Inner) → Fitting v m y → (n : ℕ) → Good n (each y n)
    unfolding next
    each-good y h zero = tt
    each-good y h (suc n) = λ last. (h, each-good y h n)

    row-good : (ys : List Inner) → All (Fitting v m) ys → Good (length ys) (row ys)
    unfolding next
    row-good [] h = tt
    row-good (y ∷ ys) h = λ last. (h.0, row-good ys h.1)

    arm-good : (a : Option Inner) → ArmIs (Fitting v m) a → GoodBy (Good 0) (on_arm a (λ y. into y shut) over)
    arm-good (Some y) h = (h, tt)
    arm-good None h = tt

    pick_good : (ms : List Member) (default : ℕ) → All (Fitting v m) (types_of ms) → Good 1 (pick ms default)
    unfolding next
    pick_good ms default h last = arm-good (chosen_of ms default last) (chosen_is (Fitting v m) default last ms h)

    -- ---- a visit; f visits what is inside, one level down

    module _ (f : Node → St Log → St Log) (part : Ranked f) where
      ranked-part : (y : Inner) → Fitting v m y → (s : St Log) → Within x s → Spent K x (R (at y)) s (f (node_at t y) s)
      ranked-part y h s e = part v order k m type few y h s e

      next-loose : (G : Open → Type 0) (a : Next) → GoodBy G a → (g : Open → St Log → St Log)
          → ((o : Open) → G o → (s : St Log) → Within x s → Spent K x K s (g o s))
          → (s : St Log) → Within x s → Spent K x K s (on_next a s (λ y o. and_then (f (node_at t y) s) (g o)))
      next-loose G over h g more s e = nothing-spent e
      next-loose G (into y o) h g more s e =
          let u : St Log = f (node_at t y) s in
          after-spent u (g o) (weaker (rank-few y h.0) (ranked-part y h.0 s e)) (more o h.1 u)

      closes-loose : (n : ℕ) (o : Open) → Good n o → (s : St Log) → Within x s → Spent K x K s (closes f t n o s)
      unfolding closes
      closes-loose zero o h s e = nothing-spent e
      closes-loose (suc n) o h s e = next-loose (Good n) (next o s.last) (h s.last) (closes f t n) (closes-loose n) s e

      -- a type is entered first, then what is open
      first-spent : (q n : ℕ) (y : Inner) (o : Open) → Fitting v m y → Good n o → R (at y) ≤ q → (s : St Log) → Within x s
          → Spent K x q s (and_then (f (node_at t y) s) (closes f t n o))
      first-spent q n y o h g l s e =
          let u : St Log = f (node_at t y) s in
          after-spent u (closes f t n o) (weaker l (ranked-part y h s e)) (closes-loose n o g u)

      each_spent : (q : ℕ) (y : Inner) (n : ℕ) → 0 < n → Fitting v m y → R (at y) ≤ q → (s : St Log) → Within x s
          → Spent K x q s (closes f t n (each y n) s)
      unfolding closes next
      each_spent q y zero i h l s e = absurd (omega arith)
      each_spent q y (suc n) i h l s e = first-spent q n y (each y n) h (each-good y h n) l s e

      row-spent : (q : ℕ) (ys : List Inner) → 0 < length ys → All (Fitting v m) ys → ((j : ℕ) → any_stands m j ys ≡ true → R j ≤ q)
          → (s : St Log) → Within x s → Spent K x q s (closes f t (length ys) (row ys) s)
      unfolding closes next any_of
      row-spent q [] l h falls s e = absurd (omega arith)
      row-spent q (y ∷ ys) l h falls s e =
          first-spent q (length ys) y (row ys) h.0 (row-good ys h.1)
          (falls (at y) (or_left (stands m (place_in y) (at y)) (any_stands m (at y) ys) (stands-there y))) s e

      -- own octets first, then what is open unless they are refused
      unless-spent : (q : ℕ) (u : St Log) (o : Open) → Good (entries o) o → (s : St Log) → Spent K x q s u → Spent K x q s (shuts f t (unless u.fault o) u)
      unfolding shuts
      unless-spent q u o g s h =
          subst (Spent K x q s) (sym (unless-is f t u o (shuts f t o) refl)) (after-spent u (shuts f t o) h (closes-loose (entries o) o g u))

      -- a type entered before an octet is taken has a rank of at most q, one entered later any rank
      enter-spent : (q : ℕ) (a : Parameters) → Sound v m a → Takes a → ((j : ℕ) → leads m j (shape_of v m a) ≡ true → R j ≤ q) → (s : St Log) → Within x s
          → Spent K x q s (enter_node sink x f (node t (shape_of v m a)) s)
      unfolding enter_node shuts entries opens own_of closes next shape_of steps_of any_of
      enter-spent q Fault h w falls s e = absurd h
      enter-spent q (Flat i) h w falls s e = inert-spent K full x q s e i (λ kind z. w kind (ap Flat z))
      enter-spent q (Struct g) h w falls s e =
          row-spent q (types_of (members_of NoLabels v g)) (some-types (members_of NoLabels v g) (let a = h.1.whole in omega (arith, h.0)))
          h.1.all falls s e
      enter-spent q (Exception g) h w falls s e =
          let ys = types_of (members_of NoLabels v g) in
          unless-spent q (inert_at sink x (Text 0) s) (row ys) (row-good ys h.all) s (inert-spent K full x q s e (Text 0) (λ kind z. clash cc))
      enter-spent q (Union g d default) h w falls s e =
          let ms = members_of (labels_for v m (place_in d)) v g in
          first-spent q 1 d (pick ms default) h.0 (pick_good ms default h.4.all)
          (falls (at d) (or_left (stands m (place_in d) (at d)) (any_stands m (at d) (types_of ms)) (stands-there d))) s e
      enter-spent q (Sequence y bound) h w falls s e =
          let u = count_at sink x bound s in
          unless-spent q u (each y u.last) (each-good y h u.last) s (count-spent K full x q s e bound)
      enter-spent q (Array y n) h w falls s e = each_spent q y n h.0 h.1 (falls (at y) (or_left (stands m (place_in y) (at y)) false (stands-there y))) s e
      enter-spent q (Alias y) h w falls s e = each_spent q y 1 (omega arith) h (falls (at y) (or_left (stands m (place_in y) (at y)) false (stands-there y))) s e

    falls_below : (j i : ℕ) → j < k → leads m i (shape_of v m (parameters_of v m j)) ≡ true → R i ≤ R j - 1
    unfolding steps
    falls_below j i l h = let a = type.falls j i l h in omega arith

    begun-spent : (q : ℕ) (s r : St Log) → 0 < q → Spent K x (q - 1) (begun sink s) r → Spent K x q s r
    begun-spent q s r h c = record { ends = c.ends; ok = λ z. let y = c.ok z in omega arith; any = let y = c.any in omega arith; rows = c.rows }

    -- a visit of a kind of which a value has an octet at least
    visit-spent : (f : Node → St Log → St Log) → Ranked f → (j : ℕ) → j < k → Takes (parameters_of v m j) → (s : St Log) → Within x s
        → Spent K x (R j) s (enter_node sink x f (node t (shape_of v m (parameters_of v m j))) (begun sink s))
    visit-spent f part j l w s e =
        begun-spent (R j) s (enter_node sink x f (node t (shape_of v m (parameters_of v m j))) (begun sink s)) (type.ranked j l).0
        (enter-spent f part (R j - 1) (parameters_of v m j) (type.good j l).sound w (λ i h. falls_below j i l h) (begun sink s) e)

    -- a type that is known looks as the kind of its place
    looks : (y : Inner) → Known m y → look v m y ≡ shape_of v m (parameters_of v m (at y))
    unfolding look
    looks y h = ap (shape_of v m) (type.seen y h)

  reads-spent : (l : ℕ) → Ranked (reads_node sink x l)
  unfolding reads_node
  reads-spent zero v order k m type few y h s e = refused-here (rank_of k v m (find_kind m (place_in y))) 55 e (omega arith)
  reads-spent (suc l) v order k m type few y h s e =
      let j = find_kind m (place_in y) in
      let takes = fitting-takes (parameters_of v m j) (subst NotTop (type.seen y h.0) h.1) in
      subst (λ (q : Shape). Spent K x (rank_of k v m j) s (enter_node sink x (reads_node sink x l) (node (checked v m) q) (begun sink s)))
      (sym (looks v order k m type few y h.0))
      (visit-spent v order k m type few (reads_node sink x l) (reads-spent l) j (type.listed y h.0) takes s e)

  -- ---- the whole reading

  record Bounded (r : St Log) : Type 0 where
    used : Within x r
    visits : visits_of r ≤ K * (length x.octets + 1)
    items : items_of r ≤ length x.octets

  within : Within x at_start
  within = omega arith

  spent-bounded : (q : ℕ) (r : St Log) → q ≤ K → Spent K x q at_start r → Bounded r
  spent-bounded q r h c =
      let a = c.any in
      let b = c.rows in
      let d = mul-le-mul_left K c.ends in
      record { used = c.ends; visits = omega (arith, mul-add K (length x.octets) 1); items = omega arith }

  -- null and void: one visit, no octet
  only-begun : 0 < K → Bounded (begun sink at_start)
  only-begun a = record { used = omega arith; visits = omega (arith, mul-add K (length x.octets) 1); items = omega arith }

  nothing_read : (f : Node → St Log → St Log) (t : Checked) (kind : ℕ) (s : St Log) → ltb kind 2 ≡ true → s ≡ enter_node sink x f (node t (flat (Leaf kind))) s
  unfolding enter_node shuts entries closes opens own_of inert_at leaf_at choose
  nothing_read f t kind s e = rw e

module _ (full : ℕ → Bool) (x : Source) (v : List ℕ) (order : Order) (k : ℕ) (m : List Kind) (type : AcceptedAs v order k m) where
  abbrev top : Inner
  top = There (place_of 0)

  -- the top's place is that of the first kind
  top-first : find_kind m (place_of 0) ≡ 0
  top-first =
      let a = type.kinds in
      find_at m (place_of 0) 0 (omega (arith, type.some)) (λ i l. absurd (omega arith)) (ap (λ (x : Kind). x.place.0) type.first)

  top-known : Known m top
  top-known = let a = type.kinds in let b = type.some in let c = top-first in omega arith

  top-bounded : (l : ℕ) → Bounded full x k (reads_node (logging full) x l (node (checked v m) (top_of (checked v m))) at_start)
  unfolding reads_node shape_of
  top-bounded zero = spent-bounded full x k 0 _ (omega arith) (refused-here 0 55 (within full x k) (omega arith))
  top-bounded (suc l) =
      let sink = logging full in
      let j : ℕ = find_kind m (place_of 0) in
      let f : Node → St Log → St Log = reads_node sink x l in
      let low : j < k = type.listed top top-known in
      subst (λ (q : Shape). Bounded full x k (enter_node sink x f (node (checked v m) q) (begun sink at_start)))
      (sym (looks full x k v order k m type (omega arith) top top-known))
      (takes-or-not (parameters_of v m j)
      (λ w. spent-bounded full x k (rank k (steps v m) j) _ (type.ranked j low).1
      (visit-spent full x k v order k m type (omega arith) f (reads-spent full x k l) j low w at_start (within full x k)))
      (λ kind e h. rw e (subst (Bounded full x k) (nothing_read full x k f (checked v m) kind (begun sink at_start) h) (only-begun full x k type.some))))

  bounded : Bounded full x k (reading full x (checked v m))
  unfolding reading reads
  bounded = top-bounded levels

  -- "octets used"
  pub used-bound : (reading full x (checked v m)).at ≤ length x.octets
  used-bound = bounded.used

  pub visits-bound : (reading full x (checked v m)).kept.visits ≤ k * (length x.octets + 1)
  visits-bound = bounded.visits

  pub items-bound : length (reading full x (checked v m)).kept.items ≤ length x.octets
  items-bound = bounded.items
