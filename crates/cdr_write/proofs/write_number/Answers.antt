-- The octets of the number fit, and are stored; or they do not, and nothing is.
use mathlib.Core.Path.{◌≡◌, sym, ◌∙◌}
use Prim.Native.Nat.{◌+◌, ◌≤◌}
use native.Mathlib.Omega.{arith}
use lib.ListN.{length}
use Rattle.cdr.specs.Align.{octets}
use Rattle.cdr.specs.Number.{octets_of}
use Rattle.cdr.proofs.NumbersGivenBack.{octets-length}
use Rattle.cdr.proofs.RoomFits.{fits-room}
use Rattle.cdr_write.proofs.BufferHolds.{not-stored, stored_there}
use Rattle.cdr_write.proofs.write_number.Goals as goal

pub number-requires : goal.number-requires
number-requires c =
    let room : c.args.at + c.octets-count.result ≤ length c.args.out.now = fits-room (length c.args.out.now) c.args.at _ (sym c.fits.ensures ∙ c.if-fits.true) in
    omega (arith, room, c.octets-count.ensures)

pub overflow_add-result : goal.overflow_add-result
overflow_add-result c =
    let room : c.args.at + c.octets-count.result ≤ length c.args.out.now = fits-room (length c.args.out.now) c.args.at _ (sym c.fits.ensures ∙ c.if-fits.true) in
    omega (arith, room)

pub returns-then-fits : goal.returns-then-fits
returns-then-fits c =
    let count-is : length (octets_of c.args.order (octets c.args.size) c.args.x) ≡ c.octets-count.result = octets-length c.args.order (octets c.args.size) c.args.x ∙ sym c.octets-count.ensures in
    stored_there c.args.out.now c.args.at _ _ (count-is) (sym c.fits.ensures ∙ c.if-fits.true) _
    c.number.ensures

pub returns : goal.returns
returns c =
    let count-is : length (octets_of c.args.order (octets c.args.size) c.args.x) ≡ c.octets-count.result = octets-length c.args.order (octets c.args.size) c.args.x ∙ sym c.octets-count.ensures in
    not-stored c.args.out.now c.args.at _ _ (count-is) (sym c.fits.ensures ∙ c.if-fits.false)
