-- No kind met.
use Rattle.type_walk.proofs.SeenAfter.{seen_none}
use Rattle.type_walk.proofs.walks.nothing_met.Goals as goal

pub returns : goal.returns
returns c = seen_none _ c.none.ensures
