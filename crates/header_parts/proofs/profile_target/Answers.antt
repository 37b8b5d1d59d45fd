-- The tagged octets.
use mathlib.Core.Path.{sym, ◌∙◌}
use Rattle.header_parts.proofs.Ended.{exit-none}
use Rattle.header_parts.proofs.PartsRead.{profile-is}
use Rattle.header_parts.proofs.profile_target.Goals as goal

pub returns-in_err-tag : goal.returns-in_err-tag
returns-in_err-tag c =
    let none = exit-none c.from_residual.ensures.1 c.ok_or.ensures.value c.in_err-tag.was in
    none.1 ∙ sym (profile-is c.args.s.now c.args.at c.args.order _ (sym c.tagged_at.ensures ∙ none.0))

pub returns : goal.returns
returns c = sym (profile-is c.args.s.now c.args.at c.args.order _ (sym c.tagged_at.ensures ∙ c.in_ok-tag.ensures.ok_part))
