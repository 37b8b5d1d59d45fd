use mathlib.Core.Path.{sym, ◌∙◌}
use native.Mathlib.Omega.{arith}
use borrow.Author.Rules.{rules}
use Rattle.type_list.proofs.KindsMet.{length-kinds}
use Rattle.type_steps.proofs.TableFilled.{filled_none, filled-all}
use Rattle.type_steps.proofs.step_table.Goals as goal

pub loop-i-init : goal.loop-i-init
loop-i-init c = (search rules, filled_none _ _)

pub returns : goal.returns
returns c =
    let many = c.held_in-i-end.ensures ∙ sym (length-kinds c.args.met) in
    filled-all _ _ _ _ _ many (omega arith) c.loop-i-test.false c.loop-i.invariant.1
