-- The tests of the kinds below n, one after the other.
use mathlib.Core.Path.{refl, ◌∙◌}
use native.Mathlib.Nat.{sub-zero}
use borrow.Author.Rules.{rules}
use borrow.Author.Tests.{tests}
use Rattle.std.proofs.lemmas.Iterator.{YieldsList-from_range}
use Rattle.std.proofs.lemmas.Iterator.Search.{any_from_yields_List}
use Rattle.type_loops.specs.Loops.{cell}
use Rattle.type_loops.specs.Inner.{some_returns}
use Rattle.type_loops.proofs.SomeBelow.{any-in-range}
use Rattle.type_loops.proofs.some_returns.Goals as goal

pub returns : goal.returns
unfolding some_returns
returns c =
    any_from_yields_List (λ i. cell c.args.steps.rows i i) _ _ _ c.any.ensures.ran (YieldsList-from_range 0 c.args.n c.args.n refl (sub-zero c.args.n)) (λ x b q k. search (rules, tests))
    ∙ any-in-range (λ i. cell c.args.steps.rows i i) c.args.n
