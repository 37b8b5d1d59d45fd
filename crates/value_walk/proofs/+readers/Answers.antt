-- Which law closes each way out of a reader: most are of VisitIsNested, those of the loops of MembersLoop and RepeatsLoop.
use Rattle.std.proofs.Common.{arith, ℕ, ◌≡◌, sym, ap, ap₂, ◌∙◌}
use Rattle.type_kinds.specs.declared.Labels.{Labels}
use Rattle.type_kinds.specs.declared.Labels.TheVariants.{NoLabels}
use Rattle.type_kinds.specs.Parts.{place_in}
use Rattle.type_kinds.specs.Members.{members_of, types_of}
use Rattle.type_parameters.specs.declared.Parameters.{Parameters}
use Rattle.type_list.specs.Arrays.{kinds_met}
use Rattle.type_unions.specs.Arms.{chosen_of}
use Rattle.type_unions.specs.Discriminants.{labels_for}
use Rattle.type_unions.specs.Shapes.{Shape, shape_of, look}
use Rattle.type_unions.specs.Shapes.Shape.{flat}
use Rattle.value_meaning.specs.Sinks.{repeats}
use Rattle.value_meaning.specs.Visit.{checked}
use Rattle.value_meaning.specs.Reading.{reads}
use Rattle.value_meaning.proofs.ReadingCases.{reads_none}
use Rattle.value_cursor.specs.Walk.{sink_of, source_of, state_of}
use Rattle.value_leaves.proofs.RepeatsLoop.{going-all, going-stop, going_more}
use Rattle.value_walk.specs.Nested.{reads_with}
use Rattle.value_walk.proofs.MembersLoop.{onward-all, onward-cut, onward-stop, onward-more}
use Rattle.value_walk.proofs.VisitIsNested as way
use Rattle.value_walk.proofs.VisitIsNested.{enter}
use Rattle.value_walk.proofs.+readers.Goals as goal
use Rattle.value_walk.proofs.+readers.Goals.{struct_members-in-Flat, struct_members-in_default-e, union_member-in-Flat, union_member-in_default}

pub each-returns-then-d-ne0 : goal.each-returns-then-d-ne0
each-returns-then-d-ne0 t c = going-stop c.loop.invariant (omega arith) c.visit-d.ensures c.if-d-ne0.true

pub each-loop-preserved : goal.each-loop-preserved
each-loop-preserved t c = going_more c.loop.invariant (omega arith) c.visit-d.ensures c.visit-d.auto.table c.if-d-ne0.false

pub each-returns : goal.each-returns
each-returns t c = going-all c.loop.invariant (omega arith)

pub elements-returns-in-Leaf : goal.elements-returns-in-Leaf
unfolding shape_of
elements-returns-in-Leaf t c =
    let a = c.args in
    let k = sink_of a.mode in
    let x = source_of a.mode a.value.now in
    let u = checked a.types.now (kinds_met a.met) in
    let s = state_of a.cursor a.table.now in
    c.leaf_elements.ensures u
    ∙ ap (λ (p : Shape). repeats (reads k x u a.left p) a.count s)
    (sym (ap (shape_of a.types.now (kinds_met a.met)) c.in-Flat.is ∙ ap flat c.in-Leaf.is))

pub elements-returns-in-Some : goal.elements-returns-in-Some
unfolding shape_of
elements-returns-in-Some t c =
    let a = c.args in
    let k = sink_of a.mode in
    let x = source_of a.mode a.value.now in
    let u = checked a.types.now (kinds_met a.met) in
    let s = state_of a.cursor a.table.now in
    c.structs.ensures
    ∙ sym (ap (λ (p : Parameters). repeats (reads k x u a.left (shape_of a.types.now (kinds_met a.met) p)) a.count s) c.in-Struct.is
    ∙ way.elements-planned k x u a.left _ _ c.in-Some.plan (sym c.in-Some.is ∙ c.plan_of.ensures) a.count s)

pub elements-returns-in_default-inert : goal.elements-returns-in_default-inert
unfolding shape_of
elements-returns-in_default-inert t c =
    let a = c.args in
    let k = sink_of a.mode in
    let x = source_of a.mode a.value.now in
    let u = checked a.types.now (kinds_met a.met) in
    let s = state_of a.cursor a.table.now in
    c.flat_elements.ensures u
    ∙ ap (λ (p : Shape). repeats (reads k x u a.left p) a.count s) (sym (ap (shape_of a.types.now (kinds_met a.met)) c.in-Flat.is))

pub exception-returns-then-d-ne0 : goal.exception-returns-then-d-ne0
exception-returns-then-d-ne0 t c =
    let a = c.args in
    let k = sink_of a.mode in
    let x = source_of a.mode a.value.now in
    let u = checked a.types.now (kinds_met a.met) in
    let s = state_of a.cursor a.table.now in
    sym (way.exception-stop k x (reads k x u a.left) u (types_of (members_of NoLabels a.types.now a.fields)) s _ c.text-d.ensures c.if-d-ne0.true)

pub exception-returns : goal.exception-returns
exception-returns t c =
    let a = c.args in
    let k = sink_of a.mode in
    let x = source_of a.mode a.value.now in
    let u = checked a.types.now (kinds_met a.met) in
    let s = state_of a.cursor a.table.now in
    c.struct_members.ensures
    ∙ sym (way.exception-go k x (reads k x u a.left) u (types_of (members_of NoLabels a.types.now a.fields)) s _ c.text-d.ensures c.if-d-ne0.false)

pub sequence-returns-then-d-ne0 : goal.sequence-returns-then-d-ne0
sequence-returns-then-d-ne0 t c =
    let a = c.args in
    let k = sink_of a.mode in
    let x = source_of a.mode a.value.now in
    let u = checked a.types.now (kinds_met a.met) in
    let s = state_of a.cursor a.table.now in
    sym (way.sequence-stop k x (reads k x u a.left) (u.look a.element) a.bound s _ c.count-d.ensures c.if-d-ne0.true)

pub sequence-returns-then-d-eq0 : goal.sequence-returns-then-d-eq0
sequence-returns-then-d-eq0 t c =
    let a = c.args in
    let k = sink_of a.mode in
    let x = source_of a.mode a.value.now in
    let u = checked a.types.now (kinds_met a.met) in
    let s = state_of a.cursor a.table.now in
    let d = state_of c.count-d.result c.count-d.new.table in
    sym (way.sequence-go k x (reads k x u a.left) (u.look a.element) a.bound s _ c.count-d.ensures c.if-d-ne0.false
    ∙ way.elements-none k x (reads k x u a.left) (u.look a.element) c.count-d.result.last d c.if-d-eq0.true)

pub sequence-returns : goal.sequence-returns
unfolding look
sequence-returns t c =
    let a = c.args in
    let k = sink_of a.mode in
    let x = source_of a.mode a.value.now in
    let u = checked a.types.now (kinds_met a.met) in
    let s = state_of a.cursor a.table.now in
    let d = state_of c.count-d.result c.count-d.new.table in
    c.elements.ensures
    ∙ ap (λ (p : Parameters). repeats (reads k x u a.left (shape_of a.types.now (kinds_met a.met) p)) c.count-d.result.last d) c.inside_of-e.ensures
    ∙ sym (way.sequence-go k x (reads k x u a.left) (u.look a.element) a.bound s _ c.count-d.ensures c.if-d-ne0.false)

pub struct_members-returns-in_default : goal.struct_members-returns-in_default
struct_members-returns-in_default t c =
    let a = c.args in
    let k = sink_of a.mode in
    let x = source_of a.mode a.value.now in
    let u = checked a.types.now (kinds_met a.met) in
    onward-cut k x (reads k x u a.left) u a.types.now a.fields.start a.fields.order c.loop.invariant (omega arith)
    (sym c.member_at.ensures ∙ c.in_default.is)

pub struct_members-returns-then-d-ne0 : goal.struct_members-returns-then-d-ne0
unfolding look shape_of
struct_members-returns-then-d-ne0 t c =
    let a = c.args in
    let k = sink_of a.mode in
    let x = source_of a.mode a.value.now in
    let u = checked a.types.now (kinds_met a.met) in
    let s = state_of c.loop.d c.loop.table in
    let visit = λ (p : Parameters). reads_with a.mode a.value.now a.types.now (kinds_met a.met) a.left p s in
    let step : state_of c.match-e.d c.match-e.table ≡ visit c.inside_of-e.result = elim c.match-e.branch [
      | struct_members-in-Flat w ↦ ap₂ state_of w.d-is w.table-is ∙ w.flat-d.ensures u ∙ ap visit (sym w.in-Flat.is)
      | struct_members-in_default-e w ↦ ap₂ state_of w.d-is w.table-is ∙ w.visit-d.ensures
    ] in
    onward-stop k x (reads k x u a.left) u a.types.now a.fields.start a.fields.order c.loop.invariant _ _ (omega arith) (sym c.member_at.ensures ∙ c.in-Some.is)
    (step ∙ ap visit c.inside_of-e.ensures) c.if-d-ne0.true

pub struct_members-loop-preserved : goal.struct_members-loop-preserved
unfolding look shape_of
struct_members-loop-preserved t c =
    let a = c.args in
    let k = sink_of a.mode in
    let x = source_of a.mode a.value.now in
    let u = checked a.types.now (kinds_met a.met) in
    let s = state_of c.loop.d c.loop.table in
    let visit = λ (p : Parameters). reads_with a.mode a.value.now a.types.now (kinds_met a.met) a.left p s in
    let step : state_of c.match-e.d c.match-e.table ≡ visit c.inside_of-e.result = elim c.match-e.branch [
      | struct_members-in-Flat w ↦ ap₂ state_of w.d-is w.table-is ∙ w.flat-d.ensures u ∙ ap visit (sym w.in-Flat.is)
      | struct_members-in_default-e w ↦ ap₂ state_of w.d-is w.table-is ∙ w.visit-d.ensures
    ] in
    onward-more k x (reads k x u a.left) u a.types.now a.fields.start a.fields.order c.loop.invariant _ _ (omega arith) (sym c.member_at.ensures ∙ c.in-Some.is)
    (step ∙ ap visit c.inside_of-e.ensures) c.match-e.auto.table c.if-d-ne0.false

pub struct_members-returns : goal.struct_members-returns
struct_members-returns t c =
    let a = c.args in
    let k = sink_of a.mode in
    let x = source_of a.mode a.value.now in
    let u = checked a.types.now (kinds_met a.met) in
    onward-all k x (reads k x u a.left) u a.types.now a.fields.start a.fields.order c.loop.invariant (omega arith)

pub union_member-returns-then-d-ne0 : goal.union_member-returns-then-d-ne0
unfolding look shape_of
union_member-returns-then-d-ne0 t c =
    let a = c.args in
    let k = sink_of a.mode in
    let x = source_of a.mode a.value.now in
    let u = checked a.types.now (kinds_met a.met) in
    let s = state_of a.cursor a.table.now in
    let d = state_of c.match-switch.d c.match-switch.table in
    let ms = members_of (labels_for a.types.now (kinds_met a.met) (place_in a.discriminant)) a.types.now a.fields in
    let visit = λ (p : Parameters). reads_with a.mode a.value.now a.types.now (kinds_met a.met) a.left p s in
    let is : d ≡ visit c.inside_of-switch.result = elim c.match-switch.branch [
      | union_member-in-Flat w ↦ ap₂ state_of w.d-is w.table-is ∙ w.flat-d.ensures u ∙ ap visit (sym w.in-Flat.is)
      | union_member-in_default w ↦ ap₂ state_of w.d-is w.table-is ∙ w.visit-d.ensures
    ] in
    sym (way.union-stop k x (reads k x u a.left) u a.discriminant ms a.default s d (is ∙ ap visit c.inside_of-switch.ensures) c.if-d-ne0.true)

pub union_member-returns-in_default-chosen_of : goal.union_member-returns-in_default-chosen_of
unfolding look shape_of
union_member-returns-in_default-chosen_of t c =
    let a = c.args in
    let k = sink_of a.mode in
    let x = source_of a.mode a.value.now in
    let u = checked a.types.now (kinds_met a.met) in
    let s = state_of a.cursor a.table.now in
    let d = state_of c.match-switch.d c.match-switch.table in
    let ms = members_of (labels_for a.types.now (kinds_met a.met) (place_in a.discriminant)) a.types.now a.fields in
    let visit = λ (p : Parameters). reads_with a.mode a.value.now a.types.now (kinds_met a.met) a.left p s in
    let is : d ≡ visit c.inside_of-switch.result = elim c.match-switch.branch [
      | union_member-in-Flat w ↦ ap₂ state_of w.d-is w.table-is ∙ w.flat-d.ensures u ∙ ap visit (sym w.in-Flat.is)
      | union_member-in_default w ↦ ap₂ state_of w.d-is w.table-is ∙ w.visit-d.ensures
    ] in
    let arm = ap (λ (l : Labels). chosen_of (members_of l a.types.now a.fields) a.default c.match-switch.d.last)
    (sym (c.labels_for-labels.ensures ∙ ap (labels_for a.types.now (kinds_met a.met)) c.place_in.ensures)) ∙ sym c.chosen_of.ensures in
    sym (way.union-none k x (reads k x u a.left) u a.discriminant ms a.default s d (is ∙ ap visit c.inside_of-switch.ensures) c.if-d-ne0.false (arm ∙ c.in_default-chosen_of.is))

pub union_member-returns-in-Flat-e : goal.union_member-returns-in-Flat-e
unfolding look shape_of
union_member-returns-in-Flat-e t c =
    let a = c.args in
    let k = sink_of a.mode in
    let x = source_of a.mode a.value.now in
    let u = checked a.types.now (kinds_met a.met) in
    let s = state_of a.cursor a.table.now in
    let d = state_of c.match-switch.d c.match-switch.table in
    let ms = members_of (labels_for a.types.now (kinds_met a.met) (place_in a.discriminant)) a.types.now a.fields in
    let visit = λ (p : Parameters). reads_with a.mode a.value.now a.types.now (kinds_met a.met) a.left p s in
    let is : d ≡ visit c.inside_of-switch.result = elim c.match-switch.branch [
      | union_member-in-Flat w ↦ ap₂ state_of w.d-is w.table-is ∙ w.flat-d.ensures u ∙ ap visit (sym w.in-Flat.is)
      | union_member-in_default w ↦ ap₂ state_of w.d-is w.table-is ∙ w.visit-d.ensures
    ] in
    let arm = ap (λ (l : Labels). chosen_of (members_of l a.types.now a.fields) a.default c.match-switch.d.last)
    (sym (c.labels_for-labels.ensures ∙ ap (labels_for a.types.now (kinds_met a.met)) c.place_in.ensures)) ∙ sym c.chosen_of.ensures in
    c.flat.ensures u
    ∙ ap (λ (p : Parameters). reads_with a.mode a.value.now a.types.now (kinds_met a.met) a.left p d) (sym c.in-Flat-e.is ∙ c.inside_of-e.ensures)
    ∙ sym (way.union-member k x (reads k x u a.left) u a.discriminant ms a.default s d (is ∙ ap visit c.inside_of-switch.ensures) _ c.if-d-ne0.false (arm ∙ c.in-Some.is))

pub union_member-returns-in_default-e : goal.union_member-returns-in_default-e
unfolding look shape_of
union_member-returns-in_default-e t c =
    let a = c.args in
    let k = sink_of a.mode in
    let x = source_of a.mode a.value.now in
    let u = checked a.types.now (kinds_met a.met) in
    let s = state_of a.cursor a.table.now in
    let d = state_of c.match-switch.d c.match-switch.table in
    let ms = members_of (labels_for a.types.now (kinds_met a.met) (place_in a.discriminant)) a.types.now a.fields in
    let visit = λ (p : Parameters). reads_with a.mode a.value.now a.types.now (kinds_met a.met) a.left p s in
    let is : d ≡ visit c.inside_of-switch.result = elim c.match-switch.branch [
      | union_member-in-Flat w ↦ ap₂ state_of w.d-is w.table-is ∙ w.flat-d.ensures u ∙ ap visit (sym w.in-Flat.is)
      | union_member-in_default w ↦ ap₂ state_of w.d-is w.table-is ∙ w.visit-d.ensures
    ] in
    let arm = ap (λ (l : Labels). chosen_of (members_of l a.types.now a.fields) a.default c.match-switch.d.last)
    (sym (c.labels_for-labels.ensures ∙ ap (labels_for a.types.now (kinds_met a.met)) c.place_in.ensures)) ∙ sym c.chosen_of.ensures in
    c.visit.ensures
    ∙ ap (λ (p : Parameters). reads_with a.mode a.value.now a.types.now (kinds_met a.met) a.left p d) c.inside_of-e.ensures
    ∙ sym (way.union-member k x (reads k x u a.left) u a.discriminant ms a.default s d (is ∙ ap visit c.inside_of-switch.ensures) _ c.if-d-ne0.false (arm ∙ c.in-Some.is))

pub visit-returns-then-left-eq0 : goal.visit-returns-then-left-eq0
visit-returns-then-left-eq0 t c =
    let a = c.args in
    let k = sink_of a.mode in
    let x = source_of a.mode a.value.now in
    let u = checked a.types.now (kinds_met a.met) in
    let s = state_of a.cursor a.table.now in
    let p = shape_of a.types.now (kinds_met a.met) a.p in
    c.refused.ensures a.table.now ∙ sym (ap (λ (l : ℕ). reads k x u l p s) c.if-left-eq0.true ∙ reads_none k x u p s)

pub visit-returns-in-Fault : goal.visit-returns-in-Fault
unfolding enter shape_of
visit-returns-in-Fault t c =
    let a = c.args in
    let k = sink_of a.mode in
    let x = source_of a.mode a.value.now in
    let u = checked a.types.now (kinds_met a.met) in
    let s = state_of a.cursor a.table.now in
    sym (way.visit-some k x u a.left (shape_of a.types.now (kinds_met a.met) a.p) _ s _ c.if-left-eq0.false
    (ap (shape_of a.types.now (kinds_met a.met)) c.in-Fault.is) (c.visit-d.ensures a.mode a.table.now))

pub visit-returns-in-Flat : goal.visit-returns-in-Flat
unfolding enter shape_of
visit-returns-in-Flat t c =
    let a = c.args in
    let k = sink_of a.mode in
    let x = source_of a.mode a.value.now in
    let u = checked a.types.now (kinds_met a.met) in
    let s = state_of a.cursor a.table.now in
    c.inert.ensures ∙ sym (way.visit-some k x u a.left (shape_of a.types.now (kinds_met a.met) a.p) _ s _ c.if-left-eq0.false
    (ap (shape_of a.types.now (kinds_met a.met)) c.in-Flat.is) (c.visit-d.ensures a.mode a.table.now))

pub visit-returns-in-Struct : goal.visit-returns-in-Struct
unfolding enter shape_of
visit-returns-in-Struct t c =
    let a = c.args in
    let k = sink_of a.mode in
    let x = source_of a.mode a.value.now in
    let u = checked a.types.now (kinds_met a.met) in
    let s = state_of a.cursor a.table.now in
    c.struct_members.ensures ∙ sym (way.visit-some k x u a.left (shape_of a.types.now (kinds_met a.met) a.p) _ s _ c.if-left-eq0.false
    (ap (shape_of a.types.now (kinds_met a.met)) c.in-Struct.is) (c.visit-d.ensures a.mode a.table.now))

pub visit-returns-in-Exception : goal.visit-returns-in-Exception
unfolding enter shape_of
visit-returns-in-Exception t c =
    let a = c.args in
    let k = sink_of a.mode in
    let x = source_of a.mode a.value.now in
    let u = checked a.types.now (kinds_met a.met) in
    let s = state_of a.cursor a.table.now in
    c.exception.ensures ∙ sym (way.visit-some k x u a.left (shape_of a.types.now (kinds_met a.met) a.p) _ s _ c.if-left-eq0.false
    (ap (shape_of a.types.now (kinds_met a.met)) c.in-Exception.is) (c.visit-d.ensures a.mode a.table.now))

pub visit-returns-in-Union : goal.visit-returns-in-Union
unfolding enter shape_of
visit-returns-in-Union t c =
    let a = c.args in
    let k = sink_of a.mode in
    let x = source_of a.mode a.value.now in
    let u = checked a.types.now (kinds_met a.met) in
    let s = state_of a.cursor a.table.now in
    c.union_member.ensures ∙ sym (way.visit-some k x u a.left (shape_of a.types.now (kinds_met a.met) a.p) _ s _ c.if-left-eq0.false
    (ap (shape_of a.types.now (kinds_met a.met)) c.in-Union.is) (c.visit-d.ensures a.mode a.table.now))

pub visit-returns-in-Sequence : goal.visit-returns-in-Sequence
unfolding enter shape_of
visit-returns-in-Sequence t c =
    let a = c.args in
    let k = sink_of a.mode in
    let x = source_of a.mode a.value.now in
    let u = checked a.types.now (kinds_met a.met) in
    let s = state_of a.cursor a.table.now in
    c.sequence.ensures ∙ sym (way.visit-some k x u a.left (shape_of a.types.now (kinds_met a.met) a.p) _ s _ c.if-left-eq0.false
    (ap (shape_of a.types.now (kinds_met a.met)) c.in-Sequence.is) (c.visit-d.ensures a.mode a.table.now))

pub visit-returns-in-Array : goal.visit-returns-in-Array
unfolding look shape_of
visit-returns-in-Array t c =
    let a = c.args in
    let k = sink_of a.mode in
    let x = source_of a.mode a.value.now in
    let u = checked a.types.now (kinds_met a.met) in
    let s = state_of a.cursor a.table.now in
    c.elements.ensures ∙ sym (way.visit-array k x u a.left (shape_of a.types.now (kinds_met a.met) a.p) _ _ s _ c.if-left-eq0.false
    (c.visit-d.ensures a.mode a.table.now) (ap (shape_of a.types.now (kinds_met a.met)) c.inside_of-e.ensures) _
    (ap (shape_of a.types.now (kinds_met a.met)) c.in-Array.is))

pub visit-returns-in-Alias : goal.visit-returns-in-Alias
unfolding look shape_of
visit-returns-in-Alias t c =
    let a = c.args in
    let k = sink_of a.mode in
    let x = source_of a.mode a.value.now in
    let u = checked a.types.now (kinds_met a.met) in
    let s = state_of a.cursor a.table.now in
    c.visit.ensures ∙ sym (way.visit-alias k x u a.left (shape_of a.types.now (kinds_met a.met) a.p) _ _ s _ c.if-left-eq0.false
    (c.visit-d.ensures a.mode a.table.now) (ap (shape_of a.types.now (kinds_met a.met)) c.inside_of-e-in-Alias.ensures)
    (ap (shape_of a.types.now (kinds_met a.met)) c.in-Alias.is))
