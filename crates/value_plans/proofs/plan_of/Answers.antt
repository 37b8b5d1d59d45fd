use mathlib.Core.Path.{sym, ap, ◌∙◌}
use mathlib.Core.Bool.{true}
use Prim.Native.Nat.{ℕ, ◌-◌}
use native.Mathlib.Omega.{arith}
use lib.ListN.{replicate}
use Rattle.choices.proofs.Turns.{left_here, left-more, left_end}
use Rattle.type_kinds.specs.declared.Labels.TheVariants.{NoLabels}
use Rattle.type_parameters.specs.declared.Parameters.{Parameters}
use Rattle.type_kinds.specs.Members.{members_of, types_of}
use Rattle.type_unions.specs.Shapes.{shape_of, look}
use Rattle.value_meaning.specs.Visit.{checked}
use Rattle.value_plans.specs.Plans.{most_members, leaf_kind, no_plan}
use Rattle.value_plans.proofs.PlanReadsStruct.{makes, make-end, make-cut, make-none, make-more, plan-many, plan-deep, plan-made}
use mathlib.Core.List.{List}
use Rattle.cdr.specs.declared.Index.{Index}
use Rattle.type_list.specs.Arrays.{kinds_met}
use Rattle.value_plans.proofs.plan_of.Goals as goal

pub returns-then-count-gt-MEMBERS : goal.returns-then-count-gt-MEMBERS
returns-then-count-gt-MEMBERS c =
    let u = checked c.args.types.now (kinds_met c.args.met) in
    let ys = types_of (members_of NoLabels c.args.types.now c.args.fields) in
    plan-many u c.args.left c.args.fields.count ys c.if-count-gt-MEMBERS.true

pub returns-then-left-lt2 : goal.returns-then-left-lt2
returns-then-left-lt2 c =
    let u = checked c.args.types.now (kinds_met c.args.met) in
    let ys = types_of (members_of NoLabels c.args.types.now c.args.fields) in
    plan-deep u c.args.left c.args.fields.count ys c.if-left-lt2.true

pub returns-in_err-inner : goal.returns-in_err-inner
returns-in_err-inner c =
    let u = checked c.args.types.now (kinds_met c.args.met) in
    let ys = types_of (members_of NoLabels c.args.types.now c.args.fields) in
    let makes-all = makes u c.args.types.now c.args.fields.start c.args.fields.order c.args.fields.count in
    let first : ℕ × Index × List ℕ = (0, c.args.fields.first, replicate most_members 0) in
    let at = sym c.member_at.ensures ∙ c.in_err-inner.was in
    c.from_residual.ensures
    ∙ left_here makes-all c.args.fields.count first c.loop-k.invariant (omega arith) no_plan
    (make-cut u c.args.types.now c.args.fields.start c.args.fields.order c.args.fields.count c.loop-k.k c.loop-k.at c.loop-k.kinds at)
    ∙ plan-made u c.args.left c.args.fields.count ys (omega (arith, c.if-count-gt-MEMBERS.false)) (omega (arith, c.if-left-lt2.false))

pub returns-then-kind : goal.returns-then-kind
unfolding look
returns-then-kind c =
    let u = checked c.args.types.now (kinds_met c.args.met) in
    let ys = types_of (members_of NoLabels c.args.types.now c.args.fields) in
    let makes-all = makes u c.args.types.now c.args.fields.start c.args.fields.order c.args.fields.count in
    let first : ℕ × Index × List ℕ = (0, c.args.fields.first, replicate most_members 0) in
    let at = sym c.member_at.ensures ∙ c.in_ok-inner.was in
    let kind = c.leaf_of-kind.ensures c.args.types.now (kinds_met c.args.met) ∙ ap
    (λ (p : Parameters). leaf_kind (shape_of c.args.types.now (kinds_met c.args.met) p)) c.inside_of.ensures in
    left_here makes-all c.args.fields.count first c.loop-k.invariant (omega arith) no_plan
    (make-none u c.args.types.now c.args.fields.start c.args.fields.order c.args.fields.count c.loop-k.k c.loop-k.at c.loop-k.kinds _ _ at _ kind c.if-kind.true)
    ∙ plan-made u c.args.left c.args.fields.count ys (omega (arith, c.if-count-gt-MEMBERS.false)) (omega (arith, c.if-left-lt2.false))

pub loop-k-preserved : goal.loop-k-preserved
unfolding look
loop-k-preserved c =
    let u = checked c.args.types.now (kinds_met c.args.met) in
    let makes-all = makes u c.args.types.now c.args.fields.start c.args.fields.order c.args.fields.count in
    let first : ℕ × Index × List ℕ = (0, c.args.fields.first, replicate most_members 0) in
    let at = sym c.member_at.ensures ∙ c.in_ok-inner.was in
    let kind = c.leaf_of-kind.ensures c.args.types.now (kinds_met c.args.met)
    ∙ ap (λ (p : Parameters). leaf_kind (shape_of c.args.types.now (kinds_met c.args.met) p)) c.inside_of.ensures in
    left-more makes-all c.args.fields.count first c.loop-k.invariant (omega arith) _
    (make-more u c.args.types.now c.args.fields.start c.args.fields.order c.args.fields.count c.loop-k.k c.loop-k.at c.loop-k.kinds _ _ at _ kind c.if-kind.false)

pub returns : goal.returns
returns c =
    let u = checked c.args.types.now (kinds_met c.args.met) in
    let ys = types_of (members_of NoLabels c.args.types.now c.args.fields) in
    let makes-all = makes u c.args.types.now c.args.fields.start c.args.fields.order c.args.fields.count in
    let first : ℕ × Index × List ℕ = (0, c.args.fields.first, replicate most_members 0) in
    sym (make-end u c.args.types.now c.args.fields.start c.args.fields.order c.args.fields.count c.loop-k.k c.loop-k.at c.loop-k.kinds)
    ∙ left_end makes-all c.args.fields.count first c.loop-k.invariant (omega arith)
    ∙ plan-made u c.args.left c.args.fields.count ys (omega (arith, c.if-count-gt-MEMBERS.false)) (omega (arith, c.if-left-lt2.false))
