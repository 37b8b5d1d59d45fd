-- The numbers, then that there is no message.
use Rattle.recording_text.specs.Text.{dash}
use Rattle.std.proofs.Common.{arith}
use Rattle.decimals.proofs.CharactersPut.{put_then}
use Rattle.recording_text.proofs.EntryListed.{line-text, numbers-most}
use Rattle.recording_text.proofs.text.put_unshown.Goals as goal

pub put_dash-requires : goal.put_dash-requires
put_dash-requires c =
    omega (arith, c.put_numbers-numbered.ensures.end, c.put_numbers-numbered.auto.out, numbers-most c.args.line c.args.answer)

pub returns : goal.returns
returns c =
    rw (← line-text c.args.line c.args.answer dash) (put_then c.put_numbers-numbered.ensures c.put_dash.ensures)
