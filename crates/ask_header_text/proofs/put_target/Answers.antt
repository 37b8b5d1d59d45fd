-- A word, and the parts behind it.
use Rattle.ask_header_text.proofs.PutsTogether.{puts_then}
use Rattle.ask_header_text.proofs.put_target.Goals as goal

pub returns-in-Profile : goal.returns-in-Profile
returns-in-Profile c =
    rw c.in-Profile.is (puts_then c.put_word-next-in-Profile.ensures (puts_then c.put_number-tagged.ensures c.put_part-in-Profile.ensures))

pub returns-in-Reference : goal.returns-in-Reference
returns-in-Reference c =
    rw c.in-Reference.is (puts_then c.put_word-next-in-Reference.ensures (puts_then c.put_number-chosen.ensures (puts_then c.put_part-typed.ensures c.put_number.ensures)))
