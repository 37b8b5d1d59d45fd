-- The count, then the components; the index behind them is in the octets, so that those after it can be counted.
use mathlib.Core.Path.{sym, ap, ◌∙◌}
use Rattle.std.specs.Prelude.{Err}
use Rattle.choices.proofs.Exits.{exit-error, error-of-none}
use Rattle.cdr.specs.declared.Size.TheVariants.{Four}
use Rattle.cdr_fields.proofs.TaggedWithin.{skip-inside}
use Rattle.profile_parts.proofs.PartsWithin.{number-inside}
use Rattle.profile.proofs.StageAnswers.{counted-none, counted_is}
use Rattle.profile.proofs.list.counted.Goals as goal

pub returns-in_err-count : goal.returns-in_err-count
returns-in_err-count c =
    exit-error c.from_residual.ensures.1 ∙ sym (counted-none c.args.s.now c.args.order c.args.at _ (sym c.count_at.ensures ∙ c.in_err-count.was))

pub returns-in_err-end : goal.returns-in_err-end
returns-in_err-end c =
    let none = error-of-none c.ok_or.ensures.value c.in_err-end.was in
    exit-error c.from_residual-in_err-end.ensures.1 ∙ ap Err none.1
    ∙ sym (counted_is c.args.s.now c.args.order c.args.at _ _ (sym c.count_at.ensures ∙ c.in_ok-count.was) _ (sym c.skip_tagged.ensures ∙ none.0))

pub overflow_sub-result : goal.overflow_sub-result
overflow_sub-result c =
    let first = number-inside c.args.s.now c.args.at c.args.order Four _ _ (sym c.count_at.ensures ∙ c.in_ok-count.was) in
    skip-inside c.args.s.now c.args.order _ _ _ first (sym c.skip_tagged.ensures ∙ c.in_ok-end.ensures.ok_part)

pub returns : goal.returns
returns c =
    let there = sym c.count_at.ensures ∙ c.in_ok-count.was in
    sym (counted_is c.args.s.now c.args.order c.args.at _ _ there _ (sym c.skip_tagged.ensures ∙ c.in_ok-end.ensures.ok_part))
