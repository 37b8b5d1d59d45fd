-- One more kind is met.
use borrow.Author.Rules.{rules}
use mathlib.Core.Path.{ap, sym, ◌∙◌}
use Prim.Native.Nat.{ℕ}
use native.Mathlib.Omega.{arith}
use lib.ListN.{set}
use Rattle.type_walk.proofs.SeenAfter.{seen-entered}
use lib.ListN.{length}
use Rattle.type_list.specs.Arrays.{kinds_met}
use Rattle.type_list.proofs.KindsMet.{length-kinds}
use Rattle.type_walk.proofs.walks.enter.Goals as goal

pub bounds-barred-i : goal.bounds-barred-i
bounds-barred-i c =
    omega (arith, c.held_in-i.ensures, length-kinds c.args.walk.met, c.requires.0)

pub returns : goal.returns
returns c =
    seen-entered c.args.walk _ c.args.place c.args.start c.args.order c.args.form c.requires.0 c.requires.1 c.requires.2
    (search (rules, c.well_formed)) (search (rules, c.well_formed)) (search (rules, c.well_formed)) (search (rules, c.well_formed)) c.add.ensures
    (ap (λ (n : ℕ). set c.args.walk.barred n c.is_barred.result) (c.held_in-i.ensures ∙ sym (length-kinds c.args.walk.met)) ∙ ap (set c.args.walk.barred (length (kinds_met c.args.walk.met))) c.is_barred.ensures)
