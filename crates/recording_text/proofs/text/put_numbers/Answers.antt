-- One number behind the other.
use Rattle.std.proofs.Common.{[], ◌∷◌, append_assoc, arith}
use Rattle.decimals.specs.Decimal.{decimal}
use Rattle.recording_text.specs.Text.{space}
use Rattle.decimals.proofs.CharactersPut.{put_then, number-most}
use Rattle.recording_text.proofs.text.put_numbers.Goals as goal

pub put_number-requires : goal.put_number-requires
put_number-requires c =
    omega (arith, c.put_number-counted.ensures.end, c.put_number-counted.auto.out, number-most c.args.line (space ∷ []))

pub returns : goal.returns
returns c =
    rw (← append_assoc (decimal c.args.line) (space ∷ [])) (put_then c.put_number-counted.ensures c.put_number.ensures)
