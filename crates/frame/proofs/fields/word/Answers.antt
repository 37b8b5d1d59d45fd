-- A word at a multiple of 4 has no gap before it, and its octets are there.
use mathlib.Core.Path.{◌≡◌, sym, ◌∙◌}
use native.Mathlib.Omega.{arith}
use Rattle.cdr.specs.Number.{number_at}
use Rattle.cdr.proofs.NumbersGivenBack.{number_small}
use Rattle.frame.proofs.WordRead.{word_value, word-there}
use Rattle.frame.proofs.fields.word.Goals as goal

pub overflow_cast-result : goal.overflow_cast-result
overflow_cast-result c =
    let value-is : c.in-Some.value ≡ number_at c.args.octets.now c.args.at 4 c.args.order = word_value c.args.octets.now c.args.at c.args.order c.requires.0 _ _ (sym c.read_field.ensures ∙ c.in-Some.is) in
    let e = value-is in
    let b = number_small c.args.octets.now c.args.at 4 c.args.order (λ k. omega (arith, c.type_inv.octets k)) c.requires.1 in
    omega arith

pub returns-in-Some : goal.returns-in-Some
returns-in-Some c =
    let value-is : c.in-Some.value ≡ number_at c.args.octets.now c.args.at 4 c.args.order = word_value c.args.octets.now c.args.at c.args.order c.requires.0 _ _ (sym c.read_field.ensures ∙ c.in-Some.is) in
    value-is

pub returns-in-None : goal.returns-in-None
returns-in-None c =
    absurd (word-there c.args.octets.now c.args.at c.args.order c.requires.0 c.requires.1 (sym c.read_field.ensures ∙ c.in-None.is))
