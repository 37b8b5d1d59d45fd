-- The tag, then the counted octets.
use mathlib.Core.Path.{sym, ◌∙◌}
use Rattle.cdr_fields.proofs.TaggedWithin.{tagged-none, tagged-with}
use Rattle.cdr_fields.proofs.tagged_at.Goals as goal

pub returns-in_err-tag : goal.returns-in_err-tag
returns-in_err-tag c =
    c.from_residual.ensures ∙ sym (tagged-none c.args.s.now c.args.at c.args.order (sym c.read_field.ensures ∙ c.in_err-tag.was))

pub returns-in_err-octets : goal.returns-in_err-octets
returns-in_err-octets c =
    c.from_residual-in_err-octets.ensures
    ∙ sym (tagged-with c.args.s.now c.args.at c.args.order _ _ (sym c.read_field.ensures ∙ c.in_ok-tag.was) _ (sym c.counted_at.ensures ∙ c.in_err-octets.was))

pub returns : goal.returns
returns c =
    sym (tagged-with c.args.s.now c.args.at c.args.order _ _ (sym c.read_field.ensures ∙ c.in_ok-tag.was) _ (sym c.counted_at.ensures ∙ c.in_ok-octets.was))
