-- The two parts one behind the other, and the header corrected over them.
use Rattle.std.specs.Prelude.{Some, None}
use mathlib.Core.Path.{◌≡◌, sym, ◌∙◌}
use Prim.Native.Nat.{◌+◌}
use lib.ListN.{length}
use Rattle.choices.proofs.Choices.{clash}
use Rattle.choices.proofs.Exits.{error-of-none}
use Rattle.join_message.proofs.HeaderCorrected.{no_header, no_room, message, second-end, joined-written}
use Rattle.join_message.proofs.write_joined.Goals as goal

pub returns-then-held-lt-HEADER_SIZE : goal.returns-then-held-lt-HEADER_SIZE
returns-then-held-lt-HEADER_SIZE c =
    no_header c.args.held.now c.args.body.now c.args.out.now c.if-held-lt-HEADER_SIZE.true

pub returns-then-out-total : goal.returns-then-out-total
returns-then-out-total c =
    no_room c.args.held.now c.args.body.now c.args.out.now c.if-held-lt-HEADER_SIZE.false c.if-out-total.true

-- never: the body fits
pub returns-in_err-end : goal.returns-in_err-end
returns-in_err-end c =
    let end-told : c.write_octets-2.result ≡ Some (length c.args.held.now + length c.args.body.now) = second-end c.args.held.now c.args.body.now c.args.out.now _ _ _ _ c.if-out-total.false c.write_octets.ensures c.write_octets-2.ensures in
    let none = error-of-none c.ok_or.ensures.value c.in_err-end.was in
    let e : None ≡ Some (length c.args.held.now + length c.args.body.now) = sym none.0 ∙ end-told in
    clash cc

pub returns : goal.returns
returns c =
    let end-told : c.write_octets-2.result ≡ Some (length c.args.held.now + length c.args.body.now) = second-end c.args.held.now c.args.body.now c.args.out.now _ _ _ _ c.if-out-total.false c.write_octets.ensures c.write_octets-2.ensures in
    let end_is : c.in_ok-end.end ≡ length c.args.held.now + length c.args.body.now = let e : (Some c.in_ok-end.end) ≡ Some (length c.args.held.now + length c.args.body.now) = sym c.in_ok-end.ensures.ok_part ∙ end-told in
    cc in
    rw (end_is)
    (message c.args.held.now c.args.body.now c.args.out.now c.if-held-lt-HEADER_SIZE.false c.if-out-total.false _
    (joined-written c.args.held.now c.args.body.now c.args.out.now _ _ _ _ _ c.if-held-lt-HEADER_SIZE.false c.if-out-total.false c.write_octets.ensures c.write_octets-2.ensures (rw (end_is) at c.correct.ensures)))
