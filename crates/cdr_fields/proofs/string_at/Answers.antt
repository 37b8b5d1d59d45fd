-- A text that was read ends in the octets, its zero with it.
use mathlib.Core.Path.{sym, ◌∙◌}
use native.Mathlib.Omega.{arith}
use Rattle.choices.proofs.Exits.{exit-error}
use Rattle.cdr_fields.proofs.FieldsWithin.{string-facts, string-at-is}
use Rattle.cdr_fields.proofs.string_at.Goals as goal

pub returns-in_err-from : goal.returns-in_err-from
returns-in_err-from c =
    exit-error c.from_residual.ensures.1
    ∙ sym (string-at-is c.args.s.now c.args.at c.args.order _ (sym c.read_string.ensures ∙ c.in_err-from.was))

pub overflow_add-result : goal.overflow_add-result
overflow_add-result c =
    let f = (string-facts c.args.s.now c.args.at c.args.order _ _ (sym c.read_string.ensures ∙ c.in_ok-from.was)).1 in omega (arith, f)

pub overflow_add-result-2 : goal.overflow_add-result-2
overflow_add-result-2 c =
    let f = (string-facts c.args.s.now c.args.at c.args.order _ _ (sym c.read_string.ensures ∙ c.in_ok-from.was)).1 in omega (arith, f)

pub returns : goal.returns
returns c =
    sym (string-at-is c.args.s.now c.args.at c.args.order _ (sym c.read_string.ensures ∙ c.in_ok-from.was))
