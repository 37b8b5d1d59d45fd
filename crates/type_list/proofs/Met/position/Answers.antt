-- The first of the places held that is the place.
use mathlib.Core.Path.{◌≡◌, ◌∙◌}
use native.Mathlib.Omega.{arith}
use borrow.Author.Rules.{rules}
use borrow.Author.Tests.{tests}
use lib.Dec.{eqb}
use lib.ListN.{take, length}
use Rattle.std.proofs.lemmas.Iterator.{YieldsList-from_slice}
use Rattle.std.proofs.lemmas.Iterator.Search.{position_from_yields_List}
use Rattle.type_list.proofs.Positions.{place-found}
use Rattle.type_list.proofs.Met.position.Goals as goal

pub returns : goal.returns
returns c =
    let long : length c.args.self.places ≡ 64 = omega arith in
    let held = take c.held_in-n.result c.args.self.places in
    position_from_yields_List {all = held} (λ x. eqb x c.args.place.0) _ _ _ c.position.ensures.ran (YieldsList-from_slice held (search rules)) (λ x b q k. search (rules, tests))
    ∙ place-found c.args.self c.args.place c.held_in-n.result c.held_in-n.ensures long
