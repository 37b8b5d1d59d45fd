-- How many kinds are met.
use mathlib.Core.Path.{sym, ◌∙◌}
use Rattle.type_list.proofs.KindsMet.{length-kinds}
use Rattle.type_walk.proofs.walks.count.Goals as goal

pub returns : goal.returns
returns c = c.held_in.ensures ∙ sym (length-kinds c.args.walk.met)
