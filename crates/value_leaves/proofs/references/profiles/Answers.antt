-- The profiles behind their count.
use Rattle.std.proofs.Common.{sym, ◌∙◌}
use Rattle.value_meaning.specs.Sinks.{St, repeats}
use Rattle.value_meaning.specs.Visit.{profile_at, profiles_at}
use Rattle.value_meaning.proofs.ReadingCases as way
use Rattle.value_cursor.specs.Lent.{Lent}
use Rattle.value_cursor.specs.Walk.{sink_of, source_of}
use Rattle.value_leaves.proofs.references.profiles.Goals as goal

pub returns-then-d-ne0 : goal.returns-then-d-ne0
unfolding profiles_at
returns-then-d-ne0 c =
    sym
    (way.stops (λ (u : St Lent). repeats (profile_at (sink_of c.args.mode) (source_of c.args.mode c.args.value.now)) u.last u) _ _
    c.count-d.ensures c.if-d-ne0.true)

pub returns : goal.returns
unfolding profiles_at
returns c =
    c.profile_list.ensures
    ∙ sym
    (way.goes_on (λ (u : St Lent). repeats (profile_at (sink_of c.args.mode) (source_of c.args.mode c.args.value.now)) u.last u) _ _ c.count-d.ensures
    c.if-d-ne0.false)
