-- A visit is the visit of readers that call one another: for every shape, every state and whatever reads what is inside; and the ways that
-- these readers take.
use Rattle.std.specs.Prelude.{Option, Some, None}
use mathlib.Core.Path.{◌≡◌, refl, sym, ap, subst, ◌∙◌, fun_ext}
use mathlib.Core.Bool.{true}
use mathlib.Core.List.{List, [], ◌∷◌}
use Prim.Native.Nat.{ℕ, zero, suc, ◌-◌, ◌<◌}
use native.Mathlib.Omega.{arith}
use lib.ListN.{length}
use Rattle.type_kinds.specs.declared.Inner.{Inner}
use Rattle.type_kinds.specs.declared.Inert.TheVariants.{Leaf}
use Rattle.type_kinds.specs.Members.{Member}
use Rattle.type_unions.specs.Arms.{on_arm, chosen_of}
use Rattle.type_unions.specs.Shapes.{Shape}
use Rattle.type_unions.specs.Shapes.Shape.{fault, flat, struct, exception, union, sequence, array, alias}
use Rattle.value_meaning.specs.Sinks.{Source, Sink, St, failed, and_then, repeats, begun}
use Rattle.value_meaning.specs.Visit.{Checked, text_at, count_at, leaf_at, inert_at}
use Rattle.value_meaning.specs.Opens.{Node, node, node_at, on_next, next, entries, own_of, opens, closes, shuts, enter_node, reads_node}
use Rattle.value_meaning.specs.Opens.Open.{shut, each, row, switch, pick}
use Rattle.value_meaning.specs.Opens.Next.{over, into}
use Rattle.value_meaning.specs.Reading.{reads}
use Rattle.value_meaning.proofs.ReadingCases.{after_same, after_none, goes_on, stops, repeats-same, unless-is, reads_none, reads-some, reads-flat}
use Rattle.value_plans.specs.declared.Plan.{Plan}
use Rattle.value_plans.specs.Plans.{plan_steps, plan_of}
use Rattle.value_plans.proofs.PlanReadsStruct.{Fits, plan-reads, plan-fits}
use Rattle.value_walk.specs.Nested.{sequence_at, members_read, exception_at, arm_at, union_at}

-- ---- the nested visit

-- what a visit does, by the type's shape; an accepted type has no fault
module _ {A : Type 0} (k : Sink A) (x : Source) (f : Shape → St A → St A) (t : Checked) where
  unfoldable pub enter : Shape → St A → St A
  enter fault s = s
  enter (flat i) s = inert_at k x i s
  enter (struct ys) s = members_read k x f t ys s
  enter (exception ys) s = exception_at k x f t ys s
  enter (union d ms default) s = union_at k x f t d ms default s
  enter (sequence y bound) s = sequence_at k x f (t.look y) bound s
  enter (array y n) s = repeats (f (t.look y)) n s
  enter (alias y) s = f (t.look y) s

-- a visit with so many levels left
module _ {A : Type 0} (k : Sink A) (x : Source) (t : Checked) where
  unfoldable pub reads_nested : ℕ → Shape → St A → St A
  reads_nested zero p s = failed 55 s
  reads_nested (suc l) p s = enter k x (reads_nested l) t p (begun k s)

-- ---- a visit is the nested one

module _ {A : Type 0} (f : Node → St A → St A) (t : Checked) where
  each-is : (y : Inner) (n : ℕ) (s : St A) → closes f t n (each y n) s ≡ repeats (f (node_at t y)) n s
  unfolding closes next repeats
  each-is y zero s = refl
  each-is y (suc n) s = after_same (f (node_at t y) s) (f (node_at t y) s) (closes f t n (each y n)) (repeats (f (node_at t y)) n) refl (each-is y n)

  module _ (k : Sink A) (x : Source) where
    abbrev f' : Shape → St A → St A
    f' p = f (node t p)

    row_is : (ys : List Inner) (s : St A) → closes f t (length ys) (row ys) s ≡ members_read k x f' t ys s
    unfolding closes next members_read
    row_is [] s = refl
    row_is (y ∷ ys) s =
        after_same (f (node_at t y) s) (f (node_at t y) s) (closes f t (length ys) (row ys)) (members_read k x f' t ys) refl (row_is ys)

    arm_is : (a : Option Inner) (s : St A)
        → on_next (on_arm a (λ y. into y shut) over) s (λ y o. and_then (f (node_at t y) s) (closes f t 0 o)) ≡ arm_at k x f' t a s
    unfolding closes
    arm_is (Some y) s = after_none (f (node_at t y) s) (closes f t 0 shut) (λ u. refl)
    arm_is None s = refl

    union-is : (d : Inner) (ms : List Member) (default : ℕ) (s : St A) → closes f t 2 (switch d ms default) s ≡ union_at k x f' t d ms default s
    unfolding closes next union_at
    union-is d ms default s =
        after_same (f (node_at t d) s) (f (node_at t d) s) (closes f t 1 (pick ms default))
        (λ u. arm_at k x f' t (chosen_of ms default u.last) u) refl
        (λ u. arm_is (chosen_of ms default u.last) u)

    -- the law, for every shape, state and f
    pub enter-is : (p : Shape) (s : St A) → enter_node k x f (node t p) s ≡ enter k x f' t p s
    unfolding enter_node shuts entries opens own_of inert_at enter exception_at sequence_at closes next
    enter-is fault s = refl
    enter-is (flat i) s = refl
    enter-is (struct ys) s = row_is ys s
    enter-is (exception ys) s =
        unless-is f t (text_at k x 0 s) (row ys) (members_read k x f' t ys) (row_is ys (text_at k x 0 s))
    enter-is (union d ms default) s = union-is d ms default s
    enter-is (sequence y bound) s =
        unless-is f t (count_at k x bound s) (each y (count_at k x bound s).last)
        (λ u. repeats (f' (t.look y)) u.last u) (each-is y (count_at k x bound s).last (count_at k x bound s))
    enter-is (array y n) s = each-is y n s
    enter-is (alias y) s = after_none (f (node_at t y) s) (closes f t 0 (each y 0)) (λ u. refl)

-- and so is the whole reading
module _ {A : Type 0} (k : Sink A) (x : Source) (t : Checked) where
  pub reads-is : (l : ℕ) (p : Shape) (s : St A) → reads_node k x l (node t p) s ≡ reads_nested k x t l p s
  unfolding reads_node reads_nested
  reads-is zero p s = refl
  reads-is (suc l) p s =
      let same : (λ (q : Shape). reads_node k x l (node t q)) ≡ reads_nested k x t l = fun_ext λ q. fun_ext λ u. reads-is l q u in
      enter-is (reads_node k x l) t k x p (begun k s) ∙ ap (λ (h : Shape → St A → St A). enter k x h t p (begun k s)) same

  -- a visit that enters what its shape is, from the state after it began
  pub visit-some : (l : ℕ) (p q : Shape) (s d : St A) → (l ≡ 0 → ⊥) → p ≡ q → d ≡ begun k s
      → reads k x t l p s ≡ enter k x (reads k x t (l - 1)) t q d
  unfolding reads
  visit-some l p q s d h e b =
      reads-some k x t l p s h
      ∙ enter-is (reads_node k x (l - 1)) t k x p (begun k s)
      ∙ ap (λ (z : Shape). enter k x (reads k x t (l - 1)) t z (begun k s)) e
      ∙ ap (enter k x (reads k x t (l - 1)) t q) (sym b)

  -- the same of an array and an alias, where what the type inside looks like is known by another name
  module _ (l : ℕ) (p : Shape) (y : Inner) (q : Shape) (s d : St A) (h : l ≡ 0 → ⊥) (b : d ≡ begun k s) (e : q ≡ t.look y) where
    pub visit-array : (n : ℕ) → p ≡ array y n → reads k x t l p s ≡ repeats (reads k x t (l - 1) q) n d
    unfolding enter
    visit-array n a = visit-some l p (array y n) s d h a b ∙ ap (λ (z : Shape). repeats (reads k x t (l - 1) z) n d) (sym e)

    pub visit-alias : p ≡ alias y → reads k x t l p s ≡ reads k x t (l - 1) q d
    unfolding enter
    visit-alias a = visit-some l p (alias y) s d h a b ∙ ap (λ (z : Shape). reads k x t (l - 1) z d) (sym e)

-- ---- a sequence, an exception and a union, by what is refused

module _ {A : Type 0} (k : Sink A) (x : Source) (f : Shape → St A → St A) where
  module _ (e : Shape) (bound : ℕ) (s u : St A) (is : u ≡ count_at k x bound s) where
    pub sequence-stop : (u.fault ≡ 0 → ⊥) → sequence_at k x f e bound s ≡ u
    unfolding sequence_at
    sequence-stop z = stops (λ r. repeats (f e) r.last r) (count_at k x bound s) u is z

    pub sequence-go : u.fault ≡ 0 → sequence_at k x f e bound s ≡ repeats (f e) u.last u
    unfolding sequence_at
    sequence-go z = goes_on (λ r. repeats (f e) r.last r) (count_at k x bound s) u is z

  module _ (t : Checked) (ys : List Inner) (s u : St A) (is : u ≡ text_at k x 0 s) where
    pub exception-stop : (u.fault ≡ 0 → ⊥) → exception_at k x f t ys s ≡ u
    unfolding exception_at
    exception-stop z = stops (members_read k x f t ys) (text_at k x 0 s) u is z

    pub exception-go : u.fault ≡ 0 → exception_at k x f t ys s ≡ members_read k x f t ys u
    unfolding exception_at
    exception-go z = goes_on (members_read k x f t ys) (text_at k x 0 s) u is z

  module _ (t : Checked) (d : Inner) (ms : List Member) (default : ℕ) (s u : St A) (is : u ≡ f (t.look d) s) where
    abbrev arm : St A → St A
    arm r = arm_at k x f t (chosen_of ms default r.last) r

    pub union-stop : (u.fault ≡ 0 → ⊥) → union_at k x f t d ms default s ≡ u
    unfolding union_at
    union-stop z = stops arm (f (t.look d) s) u is z

    pub union-member : (y : Inner) → u.fault ≡ 0 → chosen_of ms default u.last ≡ Some y
        → union_at k x f t d ms default s ≡ f (t.look y) u
    unfolding union_at
    union-member y z c = goes_on arm (f (t.look d) s) u is z ∙ ap (λ (a : Option Inner). arm_at k x f t a u) c

    pub union-none : u.fault ≡ 0 → chosen_of ms default u.last ≡ None → union_at k x f t d ms default s ≡ u
    unfolding union_at
    union-none z c = goes_on arm (f (t.look d) s) u is z ∙ ap (λ (a : Option Inner). arm_at k x f t a u) c

-- ---- elements

-- no elements, and elements where no level is left
pub elements-none : {A : Type 0} (k : Sink A) (x : Source) (f : Shape → St A → St A) (e : Shape) (n : ℕ) (s : St A) → n ≡ 0
    → repeats (f e) n s ≡ s
unfolding repeats
elements-none k x f e n s z = rw z

module _ {A : Type 0} (k : Sink A) (x : Source) (t : Checked) (l : ℕ) where
  pub elements-refused : (e : Shape) (n : ℕ) (s : St A) → l ≡ 0 → (n ≡ 0 → ⊥) → repeats (reads k x t l e) n s ≡ failed 55 s
  unfolding repeats
  elements-refused e zero s h z = absurd (z refl)
  elements-refused e (suc n) s h z =
      ap (λ (i : ℕ). repeats (reads k x t i e) (suc n) s) h
      ∙ stops (repeats (reads k x t 0 e) n) (reads k x t 0 e s) (failed 55 s) (sym (reads_none k x t e s)) (λ y. omega arith)

  -- elements of a kind without parameters, where a level is left
  pub elements-leaves : (kind n : ℕ) (s : St A) → 0 < l
      → repeats (reads k x t l (flat (Leaf kind))) n s ≡ repeats (λ u. leaf_at k x kind (begun k u)) n s
  unfolding inert_at
  elements-leaves kind n s h =
      repeats-same (reads k x t l (flat (Leaf kind))) (λ u. leaf_at k x kind (begun k u)) (λ u. reads-flat k x t l (Leaf kind) u (λ e. omega arith)) n s

  -- structs by their plan
  pub elements-planned : (count : ℕ) (ys : List Inner) (plan : Plan) → Some plan ≡ plan_of t l count ys → (n : ℕ) (s : St A)
      → repeats (reads k x t l (struct ys)) n s ≡ repeats (λ u. plan_steps k x plan.kinds 0 plan.count (begun k u)) n s
  elements-planned count ys plan is n s =
      let fit : Fits t l ys plan = plan-fits t l count ys plan (sym is) in
      repeats-same (reads k x t l (struct ys)) (λ u. plan_steps k x plan.kinds 0 plan.count (begun k u)) (plan-reads k x t l ys plan fit) n s
