-- The tagged octets.
use mathlib.Core.Path.{sym, ◌∙◌}
use Rattle.profile_parts.proofs.PartsWithin.{or-ends, component-is}
use Rattle.profile_parts.proofs.component_at.Goals as goal

pub returns : goal.returns
returns c = c.ok_or.ensures.value ∙ or-ends c.tagged_at.ensures ∙ sym (component-is c.args.s.now c.args.at c.args.order)
