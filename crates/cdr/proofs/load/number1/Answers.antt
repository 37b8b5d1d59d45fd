-- One octet is its own number.
use borrow.Author.Rules.{rules}
use mathlib.Core.Path.{◌∙◌, sym}
use native.Mathlib.Omega.{arith}
use Rattle.cdr.proofs.NumbersGivenBack.{number-one}
use Rattle.cdr.proofs.load.number1.Goals as goal

pub returns : goal.returns
returns c =
    record { value = c.wide.ensures.0 ∙ sym (number-one c.args.s.now c.args.at c.args.order (omega arith)); small = search rules }
