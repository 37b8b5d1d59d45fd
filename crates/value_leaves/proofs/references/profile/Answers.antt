-- A profile.
use Rattle.std.proofs.Common.{sym, ◌∙◌}
use Rattle.value_meaning.specs.Visit.{run_at, profile_at}
use Rattle.value_meaning.proofs.ReadingCases as way
use Rattle.value_cursor.specs.Walk.{sink_of, source_of}
use Rattle.value_leaves.proofs.references.profile.Goals as goal

pub returns-then-d-ne0 : goal.returns-then-d-ne0
unfolding profile_at
returns-then-d-ne0 c =
    sym (way.stops (run_at (sink_of c.args.mode) (source_of c.args.mode c.args.value.now)) _ _ c.tag-d.ensures c.if-d-ne0.true)

pub returns : goal.returns
unfolding profile_at
returns c =
    c.counted_run.ensures ∙ sym (way.goes_on (run_at (sink_of c.args.mode) (source_of c.args.mode c.args.value.now)) _ _ c.tag-d.ensures c.if-d-ne0.false)
