-- There is room for any number, so that it is told where it ends.
use Rattle.std.proofs.Common.{◌+◌, ◌≤◌, [], ◌∷◌, ◌++◌, length, arith}
use Rattle.cdr_write.proofs.BufferHolds.{stored-upto}
use Rattle.decimals.specs.Decimal.{decimal}
use Rattle.decimals.proofs.CharactersPut.{put-stored, number-most}
use Rattle.recording_text.proofs.text.put_number.Goals as goal

pub returns : goal.returns
returns c =
    let room : c.args.at + length (decimal c.args.x ++ (c.args.behind ∷ [])) ≤ length c.args.out.now = omega (arith, c.requires, number-most c.args.x (c.args.behind ∷ [])) in
    rw (c.unwrap_or.ensures, stored-upto c.args.out.now c.args.at _ _ _ room c.write_decimal.ensures)
    (put-stored c.args.out.now c.args.at _ _ _ room c.write_decimal.ensures)
