-- A visit that enters nothing.
use mathlib.Core.Path.{sym, ap, ◌∙◌}
use Prim.Native.Nat.{ℕ}
use Rattle.type_unions.specs.Shapes.Shape.{flat}
use Rattle.value_meaning.specs.Visit.{inert_at}
use Rattle.value_meaning.specs.Reading.{reads}
use Rattle.value_meaning.proofs.ReadingCases.{reads_none, reads-flat}
use Rattle.value_cursor.specs.Walk.{sink_of, source_of, state_of}
use Rattle.value_plans.proofs.flat.Goals as goal

pub returns-then-left-eq0 : goal.returns-then-left-eq0
returns-then-left-eq0 c =
    let sink = sink_of c.args.mode in
    let src = source_of c.args.mode c.args.value.now in
    let state = state_of c.args.cursor c.args.table.now in
    λ t. c.refused.ensures c.args.table.now
    ∙ sym (ap (λ (l : ℕ). reads sink src t l (flat c.args.inert) state) c.if-left-eq0.true
    ∙ reads_none sink src t (flat c.args.inert) state)

pub returns : goal.returns
returns c =
    let sink = sink_of c.args.mode in
    let src = source_of c.args.mode c.args.value.now in
    λ t. c.inert.ensures ∙ ap (inert_at sink src c.args.inert) (c.visit.ensures c.args.mode c.args.table.now)
    ∙ sym (reads-flat sink src t c.args.left c.args.inert (state_of c.args.cursor c.args.table.now) c.if-left-eq0.false)
