-- The flags and the size are stored over the header.
use Rattle.join_message.proofs.HeaderCorrected.{header-stored}
use Rattle.join_message.proofs.correct.Goals as goal

pub returns : goal.returns
returns c =
    header-stored c.args.out.now c.args.total c.more_cleared.result c.order_flag.result _ _
    c.requires.0 c.requires.1 c.more_cleared.ensures c.order_flag.ensures
    c.write_number.ensures
