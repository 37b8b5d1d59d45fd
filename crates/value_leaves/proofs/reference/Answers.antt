-- A reference to an object.
use Rattle.std.proofs.Common.{sym, ◌∙◌}
use Rattle.value_meaning.specs.Visit.{profiles_at, objref_at}
use Rattle.value_meaning.proofs.ReadingCases as way
use Rattle.value_cursor.specs.Walk.{sink_of, source_of}
use Rattle.value_leaves.proofs.reference.Goals as goal

pub returns-then-d-ne0 : goal.returns-then-d-ne0
unfolding objref_at
returns-then-d-ne0 c =
    sym (way.stops (profiles_at (sink_of c.args.mode) (source_of c.args.mode c.args.value.now)) _ _ c.text-d.ensures c.if-d-ne0.true)

pub returns : goal.returns
unfolding objref_at
returns c =
    c.profiles.ensures
    ∙ sym (way.goes_on (profiles_at (sink_of c.args.mode) (source_of c.args.mode c.args.value.now)) _ _ c.text-d.ensures c.if-d-ne0.false)
