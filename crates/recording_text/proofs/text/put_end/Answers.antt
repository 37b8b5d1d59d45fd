-- The word, then one number behind the other.
use Rattle.std.proofs.Common.{[], ◌∷◌, append_assoc, arith}
use Rattle.decimals.specs.Decimal.{decimal}
use Rattle.recording_text.specs.Text.{space, end_text}
use Rattle.decimals.proofs.CharactersPut.{put_then, put-stored, number-most}
use Rattle.recording_text.proofs.text.put_end.Goals as goal

pub put_number-requires : goal.put_number-requires
put_number-requires c =
    omega (arith, c.put_number-counted.ensures.end, c.put_number-counted.auto.out, c.write_octets.auto.out, number-most c.args.lines (space ∷ []))

pub returns : goal.returns
unfolding end_text
returns c =
    rw (← append_assoc (decimal c.args.lines) (space ∷ []))
    (put_then (put-stored c.args.out.now c.args.at (101 ∷ 110 ∷ 100 ∷ space ∷ []) _ _ (omega (arith, c.requires)) c.write_octets.ensures) (put_then c.put_number-counted.ensures c.put_number.ensures))
