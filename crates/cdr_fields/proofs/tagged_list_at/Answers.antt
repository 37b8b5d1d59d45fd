-- The count, then so many of them.
use mathlib.Core.Path.{sym, ◌∙◌}
use Rattle.cdr_fields.proofs.TaggedWithin.{tagged-list-none, tagged-list-is}
use Rattle.cdr_fields.proofs.tagged_list_at.Goals as goal

pub returns-in_err-count : goal.returns-in_err-count
returns-in_err-count c =
    c.from_residual.ensures ∙ sym (tagged-list-none c.args.s.now c.args.at c.args.order (sym c.read_field.ensures ∙ c.in_err-count.was))

pub returns-in_err-next : goal.returns-in_err-next
returns-in_err-next c =
    c.from_residual-in_err-next.ensures
    ∙ sym (tagged-list-is c.args.s.now c.args.at c.args.order _ _ (sym c.read_field.ensures ∙ c.in_ok-count.was) _ (sym c.skip_tagged.ensures ∙ c.in_err-next.was))

pub returns : goal.returns
returns c =
    sym (tagged-list-is c.args.s.now c.args.at c.args.order _ _ (sym c.read_field.ensures ∙ c.in_ok-count.was) _ (sym c.skip_tagged.ensures ∙ c.in_ok-next.was))
