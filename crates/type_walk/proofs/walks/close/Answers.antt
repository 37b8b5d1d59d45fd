-- The kind at a position is read to its end.
use mathlib.Core.Path.{refl}
use Rattle.type_walk.proofs.SeenAfter.{seen-closed}
use Rattle.type_walk.proofs.walks.close.Goals as goal

pub returns : goal.returns
returns c =
    seen-closed c.args.walk _ c.args.here refl refl
