-- A plan of a struct whose members are all kinds without parameters, which is read without its type.
--   leaf_step      a visit of a kind without parameters
--   plan_steps     n members of a plan from the j-th on, each a visit
--   plan_visit     a visit of a struct that has a plan
--   most_members   the most members of a plan
--   no_leaf        what stands for a kind that a plan cannot hold: one with parameters, or one that is no octet below this
--   inert_kind     the kind of what holds no other
--   leaf_kind      the kind of a shape
--   plannable     members are n, and all are kinds without parameters
--   laid          the kinds of members, laid into a list from the j-th place on
--   plan_found     a plan of these kinds; `no_plan` none
--   plan_of        the plan, if there is one, of a struct of so many members, of which those that are there have these types, with so many
--                  levels left
use Rattle.std.specs.Prelude.{◌+◌, ◌∷◌, ◌&&◌, Option, Some, None}
use Rattle.choices.specs.{ℕ, zero, suc, List, [], Bool, true, false, cond, eqb, ltb, leb, get_or, set, replicate, choose}
use Rattle.type_kinds.specs.{Inner, Inert, Leaf, Text, Objref, Enum}
use Rattle.type_unions.specs.{Shape, fault, flat, struct, exception, union, sequence, array, alias}
use Rattle.value_meaning.specs.{Source, Sink, St, and_then, begun, Visit.Checked, Visit.leaf_at}
use Rattle.value_cursor.specs.{declared.Mode.Mode, Lent.Lent, Walk.sink_of, Walk.source_of}
use Rattle.value_plans.specs.declared.Plan.{Plan}

module _ {A : Type 0} (k : Sink A) (x : Source) where
  abbrev pub leaf_step : ℕ → St A → St A
  leaf_step kind s = leaf_at k x kind (begun k s)

  unfoldable pub plan_steps : List ℕ → ℕ → ℕ → St A → St A
  plan_steps kinds j zero s = s
  plan_steps kinds j (suc n) s = and_then (leaf_step (get_or kinds j 0) s) (plan_steps kinds (j + 1) n)

abbrev pub plan_visit : Mode → List ℕ → Plan → St Lent → St Lent
plan_visit m v plan s = plan_steps (sink_of m) (source_of m v) plan.kinds 0 plan.count (begun (sink_of m) s)

abbrev pub most_members : ℕ
most_members = 16

abbrev pub no_leaf : ℕ
no_leaf = 255

unfoldable pub inert_kind : Inert → ℕ
inert_kind (Leaf kind) = cond (ltb kind no_leaf) kind no_leaf
inert_kind (Text bound) = no_leaf
inert_kind Objref = no_leaf
inert_kind (Enum names) = no_leaf

unfoldable pub leaf_kind : Shape → ℕ
leaf_kind fault = no_leaf
leaf_kind (flat i) = inert_kind i
leaf_kind (struct ys) = no_leaf
leaf_kind (exception ys) = no_leaf
leaf_kind (union d ms default) = no_leaf
leaf_kind (sequence y bound) = no_leaf
leaf_kind (array y n) = no_leaf
leaf_kind (alias y) = no_leaf

unfoldable pub plannable : Checked → ℕ → List Inner → Bool
plannable t zero [] = true
plannable t zero (y ∷ ys) = false
plannable t (suc n) [] = false
plannable t (suc n) (y ∷ ys) = cond (eqb (leaf_kind (t.look y)) no_leaf) false (plannable t n ys)

unfoldable pub laid : Checked → List ℕ → ℕ → List Inner → List ℕ
laid t kinds j [] = kinds
laid t kinds j (y ∷ ys) = laid t (set kinds j (leaf_kind (t.look y))) (j + 1) ys

abbrev pub plan_found : List ℕ → ℕ → Option Plan
plan_found kinds count = Some (record { kinds = kinds; count = count })

abbrev pub no_plan : Option Plan
no_plan = None

unfoldable pub plan_of : Checked → ℕ → ℕ → List Inner → Option Plan
plan_of t left count ys =
    choose (leb count most_members && (leb 2 left && plannable t count ys))
    (λ _. plan_found (laid t (replicate most_members 0) 0 ys) count)
    (λ _. no_plan)
