-- The gap and the number fit, and are stored; or they do not, and nothing is.
use mathlib.Core.Path.{◌≡◌, sym, ap, ◌∙◌}
use Prim.Native.Nat.{ℕ, ◌+◌, ◌≤◌}
use native.Mathlib.Omega.{arith}
use lib.ListN.{length, length-replicate}
use Rattle.cdr.specs.Align.{octets, gap}
use Rattle.cdr_fields.specs.Encapsulation.{start}
use Rattle.cdr_write.specs.Pieces.{target}
use Rattle.cdr_pieces.specs.PartPieces.{number_piece, piece_octets}
use Rattle.cdr.proofs.NumbersGivenBack.{octets-length}
use Rattle.cdr.proofs.RoomFits.{fits-room}
use Rattle.cdr_write.proofs.BufferHolds.{not-stored, stored_there, stored-fits}
use Rattle.cdr_pieces.proofs.OctetsWritten.{piece-length, piece-stored}
use Rattle.cdr_pieces.proofs.put_number.Goals as goal

pub overflow_add-at : goal.overflow_add-at
overflow_add-at c =
    let room : c.args.at +
    (c.gap-gap.result + c.octets.result) ≤ length c.args.out.now = fits-room (length c.args.out.now) c.args.at _ (sym c.fits.ensures ∙ c.if-fits.true) in
    omega (arith, room)

pub overflow_add-result : goal.overflow_add-result
overflow_add-result c =
    let room : c.args.at +
    (c.gap-gap.result + c.octets.result) ≤ length c.args.out.now = fits-room (length c.args.out.now) c.args.at _ (sym c.fits.ensures ∙ c.if-fits.true) in
    omega (arith, room)

pub returns-then-fits : goal.returns-then-fits
returns-then-fits c =
    let count-is : length (piece_octets (target c.args.order start) c.args.at (number_piece (octets c.args.size) c.args.x)) ≡ c.gap-gap.result + c.octets.result = piece-length c.args.order c.args.at (octets c.args.size) c.args.x ∙ sym (ap (λ (k : ℕ). k + c.octets.result) c.gap-gap.ensures
    ∙ ap (λ (k : ℕ). gap c.args.at (octets c.args.size) + k) c.octets.ensures) in
    let room : c.args.at +
    (c.gap-gap.result + c.octets.result) ≤ length c.args.out.now = fits-room (length c.args.out.now) c.args.at _ (sym c.fits.ensures ∙ c.if-fits.true) in
    let h = room in
    let z = length-replicate {A = ℕ} c.gap-gap.result 0 in
    let d = octets-length c.args.order (octets c.args.size) c.args.x in
    let s = stored-fits c.args.out.now c.args.at _ _ _ (omega (arith, h, z)) c.write_zeros.ensures in
    let t = stored-fits _ _ _ _ _ (omega (arith, h, d, c.octets.ensures)) c.write_number.ensures in
    stored_there c.args.out.now c.args.at _ _ (count-is) (sym
    c.fits.ensures ∙ c.if-fits.true) _
    (piece-stored c.args.order c.args.at (octets c.args.size) c.args.x _ c.gap-gap.ensures _ _ _ s t)

pub returns : goal.returns
returns c =
    let count-is : length (piece_octets (target c.args.order start) c.args.at (number_piece (octets c.args.size) c.args.x)) ≡ c.gap-gap.result + c.octets.result = piece-length c.args.order c.args.at (octets c.args.size) c.args.x ∙ sym (ap (λ (k : ℕ). k + c.octets.result) c.gap-gap.ensures
    ∙ ap (λ (k : ℕ). gap c.args.at (octets c.args.size) + k) c.octets.ensures) in
    not-stored c.args.out.now c.args.at _ _ (count-is) (sym c.fits.ensures ∙ c.if-fits.false)
