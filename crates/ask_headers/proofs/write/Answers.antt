-- There are no items.
use Rattle.ask_text.specs.Items.{items_of}
use Rattle.ask_headers.proofs.write.Goals as goal

pub returns : goal.returns
unfolding items_of
returns c = c.write_reply.ensures
