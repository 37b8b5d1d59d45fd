-- Counted octets that were read end in the octets.
use mathlib.Core.Path.{sym, ◌∙◌}
use native.Mathlib.Omega.{arith}
use Rattle.cdr_fields.proofs.FieldsWithin.{counted-facts, counted-at-is}
use Rattle.cdr_fields.proofs.counted_at.Goals as goal

pub returns-in_err-from : goal.returns-in_err-from
returns-in_err-from c =
    c.from_residual.ensures ∙ sym (counted-at-is c.args.s.now c.args.at c.args.order _ (sym c.read_counted.ensures ∙ c.in_err-from.was))

pub overflow_add-result : goal.overflow_add-result
overflow_add-result c =
    let f = (counted-facts c.args.s.now c.args.at c.args.order _ _ (sym c.read_counted.ensures ∙ c.in_ok-from.was)).1 in omega (arith, f)

pub returns : goal.returns
returns c =
    sym (counted-at-is c.args.s.now c.args.at c.args.order _ (sym c.read_counted.ensures ∙ c.in_ok-from.was))
