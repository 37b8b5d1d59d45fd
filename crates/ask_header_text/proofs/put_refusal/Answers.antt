-- A word and a number.
use Rattle.ask_header_text.proofs.PutsTogether.{puts_then}
use Rattle.ask_header_text.specs.Texts.{refusal_text}
use Rattle.ask_header_text.proofs.put_refusal.Goals as goal

pub returns : goal.returns
unfolding refusal_text
returns c =
    rw (← c.number.ensures, ← c.from.ensures) (puts_then c.put_word-first.ensures c.put_number.ensures)
