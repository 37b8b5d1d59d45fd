-- Eight octets are two halves of four.
use Rattle.cdr.proofs.NumbersGivenBack.{loaded-big, loaded-little}
use Rattle.cdr.proofs.load.number8.Goals as goal

pub returns-in-Big : goal.returns-in-Big
returns-in-Big c =
    loaded-big _ _ 4 _ c.in-Big.is c.requires _ _ _ c.number4.ensures c.number4-in-Big.ensures c.wider.ensures

pub returns-in-Little : goal.returns-in-Little
returns-in-Little c =
    loaded-little _ _ 4 _ c.in-Little.is c.requires _ _ _ c.number4-in-Little-2.ensures c.number4-in-Little.ensures c.wider-in-Little.ensures
