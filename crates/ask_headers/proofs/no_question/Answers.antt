-- `?` and an LF.
use Rattle.ask_text.specs.Replies.{reply_text}
use Rattle.ask_headers.proofs.no_question.Goals as goal

pub returns : goal.returns
unfolding reply_text
returns c = c.write_octets.ensures
