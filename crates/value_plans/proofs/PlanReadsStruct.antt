-- A plan that fits reads a struct as its type does; a plan that is found fits; the making of a plan, and the loop over its members.
use Rattle.std.specs.Prelude.{Option, Some, None}
use Rattle.std.proofs.lemmas.Option.{none-some, same_Some}
use mathlib.Core.Path.{◌≡◌, refl, sym, ap, subst, ◌∙◌}
use mathlib.Core.List.{List, [], ◌∷◌}
use mathlib.Core.Bool.{Bool, true, false, ◌&&◌, false≢true}
use Prim.Native.Nat.{ℕ, zero, suc, ◌+◌, ◌-◌, ◌≤◌, ◌<◌}
use native.Mathlib.Nat.{sub-zero}
use native.Mathlib.Omega.{arith}
use lib.Dec.{eqb, ltb, leb}
use lib.ListN.{get_or, set, length, length-set, length-replicate, replicate}
use lib.Seq.{get_or-set_same, get_or-set_other}
use types.Run.{OneOf, miss}
use denote.Enum.Declared.{tag_of}
use borrow.Author.Tests.{eq-eqb, ne_eqb, le-leb, lt-leb, leb-true}
use Rattle.choices.specs.Branch.{choose}
use Rattle.choices.proofs.Choices.{by-test, and-true}
use Rattle.cdr.specs.declared.Index.{Index}
use Rattle.cdr.specs.declared.Place.{Place}
use Rattle.cdr.specs.declared.Order.{Order}
use Rattle.type_kinds.specs.declared.Inner.{Inner}
use Rattle.type_kinds.specs.declared.Inert.{Inert}
use Rattle.type_kinds.specs.declared.Inert.TheVariants.{Leaf, Text, Objref, Enum}
use Rattle.type_kinds.specs.declared.Labels.TheVariants.{NoLabels}
use Rattle.type_parameters.specs.declared.Parameters.{Parameters}
use Rattle.type_parameters.specs.declared.Parameters.TheVariants.{Fault, Flat, Struct, Exception, Union, Sequence, Array, Alias}
use Rattle.type_kinds.specs.Parts.{member_at}
use Rattle.type_kinds.specs.Members.{members_from, types_of}
use Rattle.type_parameters.specs.contracts.Parameters.{the_type as parameters-type}
use Rattle.type_kinds.proofs.NextMember.{members-cut, members-more}
use Rattle.type_kinds.specs.declared.Kind.{Kind}
use Rattle.type_unions.specs.Shapes.{Shape, shape_of}
use Rattle.type_unions.specs.Shapes.Shape.{fault, flat, struct, exception, union, sequence, array, alias}
use Rattle.value_meaning.specs.Sinks.{Source, Sink, St, and_then, begun}
use Rattle.value_meaning.specs.Visit.{Checked, inert_at}
use Rattle.value_meaning.specs.Opens.{own_of, opens, entries, next, closes, shuts, enter_node, reads_node}
use Rattle.value_meaning.specs.Opens.Open.{row}
use Rattle.value_meaning.specs.Reading.{reads}
use Rattle.value_meaning.proofs.ReadingCases.{after_same, reads-some, reads-flat, goes_on, stops}
use Rattle.value_cursor.specs.Lent.{Lent}
use Rattle.value_leaves.proofs.RepeatsLoop.{rows}
use Rattle.value_plans.specs.declared.Plan.{Plan}
use Rattle.value_plans.specs.Plans.{leaf_step, plan_steps, most_members, no_leaf, inert_kind, leaf_kind, plannable, laid, plan_found, no_plan, plan_of}

-- ---- a struct by the plan that fits it

-- members have the kinds of a plan from the j-th on
unfoldable pub Right : Checked → List ℕ → ℕ → List Inner → Type 0
Right t kinds j [] = Unit {0}
Right t kinds j (y ∷ ys) = (t.look y ≡ flat (Leaf (get_or kinds j 0))) × Right t kinds (j + 1) ys

-- a plan is a struct's, and there are levels for the struct and its members
pub record Fits (t : Checked) (left : ℕ) (ys : List Inner) (plan : Plan) : Type 0 where
  pub levels : 2 ≤ left
  pub right : Right t plan.kinds 0 ys
  pub whole : plan.count ≡ length ys

module _ {A : Type 0} (k : Sink A) (x : Source) (t : Checked) (l : ℕ) (some : l ≡ 0 → ⊥) (kinds : List ℕ) where
  leaf-one : (y : Inner) (kind : ℕ) (s : St A) → t.look y ≡ flat (Leaf kind) → reads k x t l (t.look y) s ≡ leaf_step k x kind s
  unfolding inert_at
  leaf-one y kind s e = ap (λ (p : Shape). reads k x t l p s) e ∙ reads-flat k x t l (Leaf kind) s some

  row-planned : (j : ℕ) (ys : List Inner) (s : St A) → Right t kinds j ys
      → closes (reads_node k x l) t (length ys) (row ys) s ≡ plan_steps k x kinds j (length ys) s
  unfolding closes next plan_steps Right reads
  row-planned j [] s r = refl
  row-planned j (y ∷ ys) s r =
      after_same (reads k x t l (t.look y) s) (leaf_step k x (get_or kinds j 0) s)
      (closes (reads_node k x l) t (length ys) (row ys)) (plan_steps k x kinds (j + 1) (length ys))
      (leaf-one y (get_or kinds j 0) s r.0) (λ u. row-planned (j + 1) ys u r.1)

pub plan-reads : {A : Type 0} (k : Sink A) (x : Source) (t : Checked) (l : ℕ) (ys : List Inner) (plan : Plan) → Fits t l ys plan
    → (s : St A) → reads k x t l (struct ys) s ≡ plan_steps k x plan.kinds 0 plan.count (begun k s)
unfolding enter_node own_of opens shuts entries
plan-reads k x t l ys plan fit s =
    let h = fit.levels in
    reads-some k x t l (struct ys) s (λ z. omega arith)
    ∙ row-planned k x t (l - 1) (λ z. omega arith) plan.kinds 0 ys (begun k s) fit.right
    ∙ ap (λ (n : ℕ). plan_steps k x plan.kinds 0 n (begun k s)) (sym fit.whole)

-- ---- a plan that is found fits

-- of other parameters than those of a kind that holds no other
pub other_none : (p : Parameters) → OneOf (0 ∷ 2 ∷ 3 ∷ 4 ∷ 5 ∷ 6 ∷ 7 ∷ []) (tag_of parameters-type p) → (v : List ℕ) (ks : List Kind)
    → no_leaf ≡ leaf_kind (shape_of v ks p)
unfolding shape_of leaf_kind
other_none Fault k v ks = refl
other_none (Flat i) k v ks = absurd (miss (0 ∷ 2 ∷ 3 ∷ 4 ∷ 5 ∷ 6 ∷ 7 ∷ []) 1 tt k)
other_none (Struct g) k v ks = refl
other_none (Exception g) k v ks = refl
other_none (Union g d default) k v ks = refl
other_none (Sequence y bound) k v ks = refl
other_none (Array y n) k v ks = refl
other_none (Alias y) k v ks = refl

inert-leaf : (i : Inert) → (inert_kind i ≡ no_leaf → ⊥) → i ≡ Leaf (inert_kind i)
unfolding inert_kind
inert-leaf (Leaf kind) h = by-test (ltb kind no_leaf) (λ e. rw e) (λ e. absurd (h (rw e)))
inert-leaf (Text bound) h = absurd (h refl)
inert-leaf Objref h = absurd (h refl)
inert-leaf (Enum names) h = absurd (h refl)

leaf-shape : (p : Shape) → (leaf_kind p ≡ no_leaf → ⊥) → p ≡ flat (Leaf (leaf_kind p))
unfolding leaf_kind
leaf-shape fault h = absurd (h refl)
leaf-shape (flat i) h = ap flat (inert-leaf i h)
leaf-shape (struct ys) h = absurd (h refl)
leaf-shape (exception ys) h = absurd (h refl)
leaf-shape (union d ms default) h = absurd (h refl)
leaf-shape (sequence y bound) h = absurd (h refl)
leaf-shape (array y n) h = absurd (h refl)
leaf-shape (alias y) h = absurd (h refl)

module _ (t : Checked) where
  -- a member that a plan can hold, and those after it
  plannable-more : (n : ℕ) (y : Inner) (ys : List Inner) → plannable t (suc n) (y ∷ ys) ≡ true
      → (leaf_kind (t.look y) ≡ no_leaf → ⊥) × (plannable t n ys ≡ true)
  unfolding plannable
  plannable-more n y ys e =
      by-test (eqb (leaf_kind (t.look y)) no_leaf)
      (λ a. absurd (false≢true (rw a at e)))
      (λ a. ((λ z. absurd (false≢true (sym a ∙ eq-eqb (leaf_kind (t.look y)) no_leaf z))), rw a at e))

  plannable-all : (n : ℕ) (ys : List Inner) → plannable t n ys ≡ true → n ≡ length ys
  unfolding plannable
  plannable-all zero [] e = refl
  plannable-all zero (y ∷ ys) e = absurd (false≢true e)
  plannable-all (suc n) [] e = absurd (false≢true e)
  plannable-all (suc n) (y ∷ ys) e = ap suc (plannable-all n ys (plannable-more n y ys e).1)

  -- what is laid later leaves what is laid
  laid-before : (kinds : List ℕ) (j : ℕ) (ys : List Inner) (h : ℕ) → h < j → get_or (laid t kinds j ys) h 0 ≡ get_or kinds h 0
  unfolding laid
  laid-before kinds j [] h less = refl
  laid-before kinds j (y ∷ ys) h less =
      laid-before (set kinds j (leaf_kind (t.look y))) (j + 1) ys h (omega arith)
      ∙ get_or-set_other kinds j h (leaf_kind (t.look y)) 0 (λ z. omega arith)

  laid-right : (n : ℕ) (kinds : List ℕ) (j : ℕ) (ys : List Inner) → plannable t n ys ≡ true → j + length ys ≤ length kinds
      → Right t (laid t kinds j ys) j ys
  unfolding laid Right
  laid-right n kinds j [] e h = tt
  laid-right zero kinds j (y ∷ ys) e h = let z = plannable-all zero (y ∷ ys) e in absurd (omega arith)
  laid-right (suc n) kinds j (y ∷ ys) e h =
      let more = plannable-more n y ys e in
      let kind : ℕ = leaf_kind (t.look y) in
      let long = length-set kinds j kind in (
        leaf-shape (t.look y) more.0
            ∙ ap (λ (i : ℕ). flat (Leaf i)) (sym (laid-before (set kinds j kind) (j + 1) ys j (omega arith) ∙ get_or-set_same kinds j kind 0 (omega arith))),
        laid-right n (set kinds j kind) (j + 1) ys more.1 (omega arith),
      )

  pub plan-fits : (left count : ℕ) (ys : List Inner) (plan : Plan) → plan_of t left count ys ≡ Some plan → Fits t left ys plan
  unfolding plan_of choose
  plan-fits left count ys plan found =
      by-test (leb count most_members && (leb 2 left && plannable t count ys))
      (λ e.
      let a = and-true (leb count most_members) (leb 2 left && plannable t count ys) e in
      let b = and-true (leb 2 left) (plannable t count ys) a.1 in
      let few = leb-true count most_members a.0 in
      let all = plannable-all count ys b.1 in
      let long = length-replicate {A = ℕ} most_members 0 in
      subst (Fits t left ys) (same_Some _ _ (rw e at found)) (record {
        levels = leb-true 2 left b.0;
        right = laid-right count (replicate most_members 0) 0 ys b.1 (omega arith);
        whole = all;
      }))
      (λ e. absurd (none-some plan (rw e at found)))

-- ---- a plan in the making, of members that are listed in an encapsulation

module _ (t : Checked) (v : List ℕ) (b : Place) (order : Order) (count : ℕ) where
  abbrev listed : ℕ → Index → List Inner
  listed m i = types_of (members_from NoLabels v b order m i)

  -- what m members from an index on give, the first of them the j-th, with the kinds before it laid
  abbrev pub makes : ℕ → ℕ × Index × List ℕ → Option Plan
  makes m s = choose (plannable t m (listed m s.1)) (λ _. plan_found (laid t s.2 s.0 (listed m s.1)) count) (λ _. no_plan)

  module _ (j : ℕ) (i : Index) (kinds : List ℕ) where
    pub make-end : makes 0 (j, i, kinds) ≡ plan_found kinds count
    unfolding members_from types_of plannable laid choose
    make-end = refl

    pub make-cut : member_at NoLabels v b i order ≡ None → (m : ℕ) → makes (suc m) (j, i, kinds) ≡ no_plan
    unfolding types_of plannable choose
    make-cut e m = rw (members-cut NoLabels v b order i e m)

    module _ (y : Inner) (next : Index) (at : member_at NoLabels v b i order ≡ Some (y, next)) (kind : ℕ) (is : kind ≡ leaf_kind (t.look y)) where
      pub make-none : kind ≡ no_leaf → (m : ℕ) → makes (suc m) (j, i, kinds) ≡ no_plan
      unfolding types_of plannable choose
      make-none e m = rw (members-more NoLabels v b order i y next at m, ← is, eq-eqb kind no_leaf e)

      pub make-more : (kind ≡ no_leaf → ⊥) → (m : ℕ) → makes (suc m) (j, i, kinds) ≡ makes m (j + 1, next, set kinds j kind)
      unfolding types_of plannable laid
      make-more e m =
          let one : makes (suc m) (j, i, kinds) ≡ makes m (j + 1, next, set kinds j (leaf_kind (t.look y))) =
          rw (members-more NoLabels v b order i y next at m, ne_eqb (leaf_kind (t.look y)) no_leaf (λ z. e (is ∙ z))) in
          one ∙ ap (λ (h : ℕ). makes m (j + 1, next, set kinds j h)) (sym is)

module _ (t : Checked) (left count : ℕ) (ys : List Inner) where
  pub plan-many : most_members < count → no_plan ≡ plan_of t left count ys
  unfolding plan_of choose
  plan-many h = rw (lt-leb count most_members h)

  pub plan-deep : left < 2 → no_plan ≡ plan_of t left count ys
  unfolding plan_of choose
  plan-deep h = by-test (leb count most_members) (λ a. rw (a, lt-leb 2 left h)) (λ a. rw a)

  pub plan-made : count ≤ most_members → 2 ≤ left
      → choose (plannable t count ys) (λ _. plan_found (laid t (replicate most_members 0) 0 ys) count) (λ _. no_plan) ≡ plan_of t left count ys
  unfolding plan_of
  plan-made h l = rw (le-leb count most_members h, le-leb 2 left l)

-- j of n members of a plan are read from s₀ on, and s is the state
module _ (k : Sink Lent) (x : Source) (kinds : List ℕ) where
  steps-one : (n j : ℕ) (s : St Lent) → j < n
      → plan_steps k x kinds j (n - j) s ≡ and_then (leaf_step k x (get_or kinds j 0) s) (plan_steps k x kinds (j + 1) (n - (j + 1)))
  unfolding plan_steps
  steps-one n j s h = let e : n - j ≡ suc (n - (j + 1)) = omega arith in rw e

  pub record Stepping (n j : ℕ) (s₀ s : St Lent) : Type 0 where
    pub few : j ≤ n
    pub same : rows s ≡ rows s₀
    pub rest : plan_steps k x kinds j (n - j) s ≡ plan_steps k x kinds 0 n s₀

  module _ {n : ℕ} {s₀ : St Lent} where
    pub stepping-none : Stepping n 0 s₀ s₀
    stepping-none = record { few = omega arith; same = refl; rest = ap (λ (j : ℕ). plan_steps k x kinds 0 j s₀) (sub-zero n) }

    module _ {j : ℕ} {s : St Lent} (on : Stepping n j s₀ s) where
      pub stepping-all : n ≤ j → s ≡ plan_steps k x kinds 0 n s₀
      unfolding plan_steps
      stepping-all h =
          let e : n - j ≡ 0 = omega arith in
          sym (ap (λ (c : ℕ). plan_steps k x kinds j c s) e) ∙ on.rest

      module _ {r : St Lent} (more : j < n) (step : r ≡ leaf_step k x (get_or kinds j 0) s) where
        abbrev left : St Lent → St Lent
        left = plan_steps k x kinds (j + 1) (n - (j + 1))

        pub stepping-stop : (r.fault ≡ 0 → ⊥) → r ≡ plan_steps k x kinds 0 n s₀
        stepping-stop z = sym (steps-one n j s more ∙ stops left (leaf_step k x (get_or kinds j 0) s) r step z) ∙ on.rest

        pub stepping-more : rows r ≡ rows s → r.fault ≡ 0 → Stepping n (j + 1) s₀ r
        stepping-more e z =
            record {
              few = omega arith;
              same = e ∙ on.same;
              rest = sym (steps-one n j s more ∙ goes_on left (leaf_step k x (get_or kinds j 0) s) r step z) ∙ on.rest;
            }
