use mathlib.Core.Path.{sym, ◌∙◌}
use native.Mathlib.Omega.{arith}
use Rattle.join_places.specs.Places.{open_before, both_open}
use Rattle.join_places.proofs.FoldsChanged.{some-here}
use Rattle.join_places.proofs.open_before.Goals as goal

pub returns-then-both_open : goal.returns-then-both_open
unfolding open_before
returns-then-both_open c =
    sym (some-here (both_open c.args.r c.args.i) c.args.i c.loop-j.j (omega arith) (sym c.both_open.ensures ∙ c.if-both_open.true))
