-- Where there is room, it is stored.
use Rattle.ask_header_text.proofs.PutsTogether.{puts_or}
use Rattle.ask_header_text.proofs.put_number.Goals as goal

pub returns : goal.returns
returns c = puts_or c.args.out.now c.args.at _ _ _ c.write_decimal.ensures c.args.at _ c.unwrap_or.ensures
