-- The search of the closed rows.
use mathlib.Core.Path.{◌∙◌}
use Rattle.type_loops.proofs.RoundsDone.{some-found}
use Rattle.type_loops.proofs.has_loop.Goals as goal

pub returns : goal.returns
returns c = c.some_returns.ensures ∙ some-found _ _ _ _ c.min-n.ensures c.closed.ensures
