-- The counted octets.
use mathlib.Core.Path.{sym, ◌∙◌}
use Rattle.header_parts.proofs.Ended.{exit-none}
use Rattle.header_parts.proofs.PartsRead.{key-is}
use Rattle.header_parts.proofs.key_target.Goals as goal

pub returns-in_err-octets : goal.returns-in_err-octets
returns-in_err-octets c =
    let none = exit-none c.from_residual.ensures.1 c.ok_or.ensures.value c.in_err-octets.was in
    none.1 ∙ sym (key-is c.args.s.now c.args.at c.args.order _ (sym c.counted_at.ensures ∙ none.0))

pub returns : goal.returns
returns c = sym (key-is c.args.s.now c.args.at c.args.order _ (sym c.counted_at.ensures ∙ c.in_ok-octets.ensures.ok_part))
