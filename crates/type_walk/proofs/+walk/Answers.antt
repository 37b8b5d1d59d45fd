-- A type, what follows its kind, a union and members meet their contracts: the laws of TypeAtCases, way by way.
use Rattle.std.proofs.Common.{sym, ◌∙◌, ap, arith}
use Rattle.cdr.specs.declared.Size.TheVariants.{Four}
use Rattle.cdr.specs.declared.Place.{Place}
use Rattle.cdr_fields.proofs.FieldsRead.{field-facts}
use Rattle.choices.proofs.Turns.{left_here, left-more, left_end}
use Rattle.type_walk.specs.Walk.{seen, seen_as, entered}
use Rattle.type_walk.specs.Types.{composite_at, members_at, type_at}
use Rattle.type_walk.proofs.TypeAtCases.{entry-facts, part-facts, type-ends, type-indirection, type-barred, type-enters}
use Rattle.type_walk.proofs.TypeAtCases.{switched-refused, switched-wrong, switched-on, members-refused, members-cut, members-on}
use Rattle.type_walk.proofs.+walk.Goals as goal

pub check-returns-in_default : goal.check-returns-in_default
check-returns-in_default t c =
    c.refused.ensures ∙ type-ends _ _ _ _ _ _ _ (sym c.read_field.ensures ∙ c.in_default.is)

pub check-returns-then-kind-eq-INDIRECTION : goal.check-returns-then-kind-eq-INDIRECTION
check-returns-then-kind-eq-INDIRECTION t c =
    c.on.ensures ∙ c.indirection.ensures
    ∙ type-indirection _ _ _ _ _ _ _ _ _ (sym c.read_field.ensures ∙ c.in-Some.is) c.if-kind-eq-INDIRECTION.true

pub check-place_before-place-requires : goal.check-place_before-place-requires
check-place_before-place-requires t c =
    let f = field-facts _ _ Four _ _ _ (sym c.read_field.ensures ∙ c.in-Some.is) in
    (omega (arith, f.ends), omega (arith, f.fits, f.ends, c.requires))

pub check-enter-entered-requires : goal.check-enter-entered-requires
check-enter-entered-requires t c =
    let e = entry-facts _ _ _ _ (sym c.entry_of.ensures ∙ c.in-Ok.is) in
    let f = field-facts _ _ Four _ _ _ (sym c.read_field.ensures ∙ c.in-Some.is) in
    let place = ap (λ (p : Place). p.0) c.place_before-place.ensures in (
      omega (arith, e.room, c.count-here.ensures),
      omega (arith, place, f.fits, f.ends, c.requires),
      omega (arith, f.fits, f.ends, c.requires),
    )

pub check-overflow_sub-left : goal.check-overflow_sub-left
check-overflow_sub-left t c = omega (arith, (entry-facts _ _ _ _ (sym c.entry_of.ensures ∙ c.in-Ok.is)).some)

pub check-inside-requires : goal.check-inside-requires
check-inside-requires t c =
    let e = entry-facts _ _ _ _ (sym c.entry_of.ensures ∙ c.in-Ok.is) in
    (omega (arith, e.some, c.decreases), (c.requires, omega (arith, e.room)))

pub check-returns-in-Err : goal.check-returns-in-Err
check-returns-in-Err t c =
    c.refused-in-Err.ensures
    ∙ type-barred _ _ _ _ _ _ _ _ _ (sym c.read_field.ensures ∙ c.in-Some.is) c.if-kind-eq-INDIRECTION.false _ c.form_of-form.ensures
    _ c.count-here.ensures _ (sym c.entry_of.ensures ∙ c.in-Err.is)

pub check-returns-in-Ok : goal.check-returns-in-Ok
check-returns-in-Ok t c =
    c.inside.ensures
    ∙ type-enters _ _ _ _ _ _ _ _ _ (sym c.read_field.ensures ∙ c.in-Some.is) c.if-kind-eq-INDIRECTION.false _ c.form_of-form.ensures
    _ c.count-here.ensures (sym c.entry_of.ensures ∙ c.in-Ok.is) _
    (c.enter-entered.ensures
    ∙ ap (λ (p : Place). entered (seen c.args.walk) p c.args.start c.args.order c.form_of-form.result) c.place_before-place.ensures)

pub inside-overflow_add-first : goal.inside-overflow_add-first
inside-overflow_add-first t c =
    let f = part-facts _ _ _ _ _ _ (sym c.part_at.ensures ∙ c.in-Ok.is) in
    omega (arith, c.requires.0, f.ends, f.some)

pub inside-slice_bounds-parameters-count : goal.inside-slice_bounds-parameters-count
inside-slice_bounds-parameters-count t c =
    omega (arith, (part-facts _ _ _ _ _ _ (sym c.part_at.ensures ∙ c.in-Ok.is)).some)

pub inside-slice_bounds-parameters-start : goal.inside-slice_bounds-parameters-start
inside-slice_bounds-parameters-start t c =
    omega (arith, (part-facts _ _ _ _ _ _ (sym c.part_at.ensures ∙ c.in-Ok.is)).some)

pub inside-slice_bounds-parameters-end : goal.inside-slice_bounds-parameters-end
inside-slice_bounds-parameters-end t c =
    omega (arith, (part-facts _ _ _ _ _ _ (sym c.part_at.ensures ∙ c.in-Ok.is)).ends)

pub inside-parameters-walked-requires : goal.inside-parameters-walked-requires
inside-parameters-walked-requires t c =
    let f = part-facts _ _ _ _ _ _ (sym c.part_at.ensures ∙ c.in-Ok.is) in
    (omega (arith, c.decreases), omega (arith, c.requires.0, f.ends, f.some))

pub inside-overflow_sub-end : goal.inside-overflow_sub-end
inside-overflow_sub-end t c =
    omega (arith, (part-facts _ _ _ _ _ _ (sym c.part_at.ensures ∙ c.in-Ok.is)).some)

pub inside-returns-in-Err : goal.inside-returns-in-Err
unfolding composite_at
inside-returns-in-Err t c =
    rw (c.in-Composite.is, sym c.part_at.ensures ∙ c.in-Err.is) c.refused-in-Err.ensures

pub inside-returns-in-Ok : goal.inside-returns-in-Ok
unfolding composite_at
inside-returns-in-Ok t c =
    rw (c.in-Composite.is, sym c.part_at.ensures ∙ c.in-Ok.is, ← c.parameters-walked.ensures) c.ended.ensures

pub member_types-returns-in-Err : goal.member_types-returns-in-Err
member_types-returns-in-Err t c =
    c.refused.ensures
    ∙ left_here _ _ _ c.loop-k.invariant c.loop-k-test.true _
    (members-refused _ _ _ _ _ _ _ _ _ _ _ _ (sym c.name_after.ensures ∙ c.in-Err.is))

pub member_types-returns-in-Err-step : goal.member_types-returns-in-Err-step
member_types-returns-in-Err-step t c =
    c.refused-in-Err-step.ensures
    ∙ left_here _ _ _ c.loop-k.invariant c.loop-k-test.true _
    (members-cut _ _ _ _ _ _ _ _ _ _ _ _ (sym c.name_after.ensures ∙ c.in-Ok.is)
    (seen_as c.check-walked.result) c.check-walked.ensures _ c.in-Err-step.is)

pub member_types-loop-k-preserved : goal.member_types-loop-k-preserved
member_types-loop-k-preserved t c =
    left-more _ _ _ c.loop-k.invariant c.loop-k-test.true _
    (members-on _ _ _ _ _ _ _ _ _ _ _ _ (sym c.name_after.ensures ∙ c.in-Ok.is)
    (seen_as c.check-walked.result) c.check-walked.ensures _ c.in-Ok-step.is)

pub member_types-returns : goal.member_types-returns
unfolding members_at
member_types-returns t c = c.goes_on.ensures ∙ left_end _ _ _ c.loop-k.invariant c.loop-k-test.false

pub switched-returns-in-Err : goal.switched-returns-in-Err
switched-returns-in-Err t c =
    c.refused.ensures
    ∙ switched-refused _ (type_at c.args.types.now c.args.left) _ _ _ _ _ (seen_as c.check-walked.result) c.check-walked.ensures _ c.in-Err.is

pub switched-returns-in-Err-switch_head : goal.switched-returns-in-Err-switch_head
switched-returns-in-Err-switch_head t c =
    c.refused-in-Err-switch_head.ensures
    ∙ switched-wrong _ (type_at c.args.types.now c.args.left) _ _ _ _ _ (seen_as c.check-walked.result) c.check-walked.ensures
    _ c.in-Ok.is _ c.labels_at-labels.ensures _ (sym c.switch_head.ensures ∙ c.in-Err-switch_head.is)

pub switched-returns-in-Ok-switch_head : goal.switched-returns-in-Ok-switch_head
switched-returns-in-Ok-switch_head t c =
    c.member_types.ensures
    ∙ switched-on _ (type_at c.args.types.now c.args.left) _ _ _ _ _ (seen_as c.check-walked.result) c.check-walked.ensures
    _ c.in-Ok.is _ c.labels_at-labels.ensures _ _ _ (sym c.switch_head.ensures ∙ c.in-Ok-switch_head.is)
