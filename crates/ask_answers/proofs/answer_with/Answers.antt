-- What is answered is written, with the items that the table has and the octets of the memory.
use mathlib.Core.Path.{ap, subst, ◌∙◌}
use mathlib.Core.List.{List}
use Prim.Native.Nat.{ℕ}
use lib.ListN.{take}
use Rattle.cdr_write.specs.Write.{Stored}
use Rattle.ask_text.specs.Items.{items_of}
use Rattle.ask_text.specs.Replies.{reply_text}
use Rattle.ask_answers.specs.Inner.{reply_numbers}
use Rattle.ask_answers.proofs.WordsAnswered.{replied-text}
use Rattle.ask_answers.proofs.answer_with.Goals as goal

pub returns : goal.returns
returns c = (
  subst (λ (xs : List ℕ). Stored c.args.out.now c.args.at xs c.write_reply.result c.write_reply.new.out)
      (ap (λ (k : ℕ). reply_text c.reply_to-reply.result (items_of (take k c.reply_to-reply.new.table)) (take c.octets_of-m.result c.reply_to-reply.new.memory)) c.numbers_of-n.ensures
      ∙ ap (λ (k : ℕ). reply_text c.reply_to-reply.result (items_of (take (reply_numbers c.reply_to-reply.result) c.reply_to-reply.new.table)) (take k c.reply_to-reply.new.memory)) c.octets_of-m.ensures
      ∙ replied-text c.args.line.now _ _ _ _ c.reply_to-reply.ensures.0 c.reply_to-reply.ensures.1)
      c.write_reply.ensures,
  c.reply_to-reply.ensures.0.filled,
)
