-- The message that the answer shows stands at the start of the memory that it was joined into.
use Rattle.std.proofs.Common.{sym, ◌∙◌}
use Rattle.recording_text.proofs.EntryListed.{lists-shown}
use Rattle.recording_text.proofs.line.list_octets.Goals as goal

pub returns-in-Some : goal.returns-in-Some
returns-in-Some c =
    lists-shown c.args.octets.now c.args.before c.args.places.now c.args.message.now c.join-answer.result _ _ c.requires.1 c.join-answer.ensures c.args.number _ c.args.out.now c.args.at _ _ c.answer_number-code.ensures _ (sym c.output_in.ensures ∙ c.in-Some.is) c.put_shown-end.ensures
