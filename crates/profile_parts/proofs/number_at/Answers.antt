-- The field's number.
use mathlib.Core.Path.{sym, ◌∙◌}
use Rattle.profile_parts.proofs.PartsWithin.{or-ends, number_is}
use Rattle.profile_parts.proofs.number_at.Goals as goal

pub returns : goal.returns
returns c = c.ok_or.ensures.value ∙ or-ends c.read_field.ensures ∙ sym (number_is c.args.s.now c.args.at c.args.order c.args.size)
