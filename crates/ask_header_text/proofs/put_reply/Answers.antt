-- One number behind the other.
use Rattle.ask_header_text.proofs.PutsTogether.{puts_then}
use Rattle.ask_header_text.specs.Texts.{reply_header_text}
use Rattle.ask_header_text.proofs.put_reply.Goals as goal

pub returns : goal.returns
unfolding reply_header_text
returns c =
    rw (← c.from.ensures) (puts_then c.put_word-first.ensures (puts_then c.put_number-versed.ensures (puts_then c.put_number-identified.ensures (puts_then c.put_number-last.ensures (puts_then c.put_number-counted.ensures c.put_number.ensures)))))
