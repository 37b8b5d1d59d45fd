-- There is room for the number, so that it is told where it ends.
use Rattle.ask_text.proofs.OctetsPut.{put-told}
use Rattle.ask_text.proofs.head.put_number.Goals as goal

pub returns : goal.returns
returns c =
    rw c.unwrap_or.ensures (put-told c.args.out.now c.args.at _ _ _ c.requires c.write_decimal.ensures)
