-- The numbers, then the message.
use Rattle.hexline.specs.Encoding.{octet_digits}
use Rattle.std.proofs.Common.{arith}
use Rattle.decimals.proofs.CharactersPut.{put_then}
use Rattle.recording_text.proofs.EntryListed.{line-text, numbers-most}
use Rattle.recording_text.proofs.text.put_shown.Goals as goal

pub put_message-requires : goal.put_message-requires
put_message-requires c =
    omega (arith, c.put_numbers-numbered.ensures.end, c.put_numbers-numbered.auto.out, numbers-most c.args.line c.args.answer)

pub returns : goal.returns
returns c =
    rw (← line-text c.args.line c.args.answer (octet_digits c.args.message.now)) (put_then c.put_numbers-numbered.ensures c.put_message.ensures)
