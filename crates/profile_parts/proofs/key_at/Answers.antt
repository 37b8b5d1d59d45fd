-- The counted octets.
use mathlib.Core.Path.{sym, ◌∙◌}
use Rattle.profile_parts.proofs.PartsWithin.{or-ends, key-is}
use Rattle.profile_parts.proofs.key_at.Goals as goal

pub returns : goal.returns
returns c = c.ok_or.ensures.value ∙ or-ends c.counted_at.ensures ∙ sym (key-is c.args.s.now c.args.at c.args.order)
