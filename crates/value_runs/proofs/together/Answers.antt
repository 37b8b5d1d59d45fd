-- Plain visits.
use Rattle.std.proofs.Common.{sym, ◌∙◌}
use Rattle.value_runs.proofs.RowsAtOnce.{row_first}
use Rattle.value_runs.proofs.together.Goals as goal

pub from-requires : goal.from-requires
from-requires c =
    row_first c.requires c.size_of-size.ensures (sym c.number_at.ensures ∙ c.in-Some.is)
