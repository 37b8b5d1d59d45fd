-- The place of the first space, or the end.
use Rattle.std.proofs.Common.{rules, tests}
use Rattle.std.proofs.lemmas.Iterator.{YieldsList-from_slice}
use Rattle.std.proofs.lemmas.Iterator.Search.{position_from_yields_List}
use Rattle.ask_words.proofs.FirstWordEnds.{first-found}
use Rattle.ask_words.proofs.first_end.Goals as goal

pub returns : goal.returns
returns c =
    first-found c.args.line.now
    (position_from_yields_List _ _ _ _ c.position.ensures.ran (YieldsList-from_slice c.args.line.now cc) (λ x b q k. search (rules, tests)))
    c.unwrap_or.ensures
