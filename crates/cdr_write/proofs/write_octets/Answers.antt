-- The octets fit, and are stored; or they do not, and nothing is.
use mathlib.Core.Path.{sym, ◌∙◌}
use Prim.Native.Nat.{◌+◌, ◌≤◌}
use lib.ListN.{length}
use native.Mathlib.Omega.{arith}
use Rattle.cdr.proofs.RoomFits.{fits-room}
use Rattle.cdr_write.proofs.write_octets.Goals as goal

pub copy-requires : goal.copy-requires
copy-requires c =
    let room : c.args.at + length c.args.octets.now ≤ length c.args.out.now = fits-room (length c.args.out.now) c.args.at _ (sym c.fits.ensures ∙ c.if-fits.true) in
    omega (arith, room)

pub overflow_add-result : goal.overflow_add-result
overflow_add-result c =
    let room : c.args.at + length c.args.octets.now ≤ length c.args.out.now = fits-room (length c.args.out.now) c.args.at _ (sym c.fits.ensures ∙ c.if-fits.true) in
    omega (arith, room)
