-- One part behind the other.
use Rattle.ask_header_text.proofs.PutsTogether.{puts_then}
use Rattle.ask_header_text.specs.Texts.{request_text}
use Rattle.ask_header_text.proofs.put_request.Goals as goal

pub returns : goal.returns
unfolding request_text
returns c =
    rw (← c.from.ensures) (puts_then c.put_word-first.ensures (puts_then c.put_number-versed.ensures (puts_then c.put_number-identified.ensures (puts_then c.put_number-responded.ensures (puts_then c.put_target-addressed.ensures (puts_then c.put_part-named.ensures (puts_then c.put_part-last.ensures (puts_then c.put_number-counted.ensures c.put_number.ensures))))))))
