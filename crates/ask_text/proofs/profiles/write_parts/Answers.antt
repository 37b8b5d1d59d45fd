-- All of it fits, or nothing is written.
use mathlib.Core.Path.{◌≡◌, sym, ◌∙◌}
use mathlib.Core.List.{◌++◌}
use Prim.Native.Nat.{◌+◌, ◌≤◌}
use native.Mathlib.Omega.{arith}
use lib.ListN.{length, length-append}
use Rattle.cdr.proofs.RoomFits.{fits-room}
use Rattle.ask_text.specs.Replies.{space, octets_text}
use Rattle.ask_text.proofs.StoredTogether.{lacks-first, lacks-second, lacks-third, all-stored}
use Rattle.ask_text.proofs.profiles.write_parts.Goals as goal

pub returns-then-not-has_room : goal.returns-then-not-has_room
returns-then-not-has_room c =
    let first = c.args.head.now ++ octets_text c.args.host.now space in
    let second = c.args.port.now ++ octets_text c.args.key.now space in
    lacks-first c.args.out.now c.args.at first second c.args.counts.now (sym (c.has_room.ensures space) ∙ c.if-not-has_room.true)

pub overflow_add-next : goal.overflow_add-next
overflow_add-next c =
    let host-fits : c.args.at + length c.args.head.now + length (octets_text c.args.host.now space) ≤ length c.args.out.now = let room = fits-room (length c.args.out.now) c.args.at _ (sym (c.has_room.ensures space) ∙ c.if-not-has_room.false) in
    omega (arith, room, length-append c.args.head.now (octets_text c.args.host.now space)) in
    omega (arith, host-fits)

pub overflow_add-next-2 : goal.overflow_add-next-2
overflow_add-next-2 c =
    let host-fits : c.args.at + length c.args.head.now + length (octets_text c.args.host.now space) ≤ length c.args.out.now = let room = fits-room (length c.args.out.now) c.args.at _ (sym (c.has_room.ensures space) ∙ c.if-not-has_room.false) in
    omega (arith, room, length-append c.args.head.now (octets_text c.args.host.now space)) in
    omega (arith, host-fits, c.text_length.ensures space)

pub returns-then-not-has_room-2 : goal.returns-then-not-has_room-2
returns-then-not-has_room-2 c =
    let host-end : c.args.at + length c.args.head.now + c.text_length.result ≡ c.args.at + length (c.args.head.now ++ octets_text c.args.host.now space) = omega (arith, c.text_length.ensures space, length-append c.args.head.now (octets_text c.args.host.now space)) in
    let first = c.args.head.now ++ octets_text c.args.host.now space in
    let second = c.args.port.now ++ octets_text c.args.key.now space in
    let lacks = sym (c.has_room-2.ensures space) ∙ c.if-not-has_room-2.true in
    lacks-second c.args.out.now c.args.at first second c.args.counts.now _ (host-end) lacks

pub overflow_add-last : goal.overflow_add-last
overflow_add-last c =
    let key_fits : c.args.at + length c.args.head.now + c.text_length.result + length c.args.port.now + length (octets_text c.args.key.now space) ≤ length c.args.out.now = let room = fits-room (length c.args.out.now) _ _ (sym (c.has_room-2.ensures space) ∙ c.if-not-has_room-2.false) in
    omega (arith, room, length-append c.args.port.now (octets_text c.args.key.now space)) in
    omega (arith, key_fits)

pub overflow_add-last-2 : goal.overflow_add-last-2
overflow_add-last-2 c =
    let key_fits : c.args.at + length c.args.head.now + c.text_length.result + length c.args.port.now + length (octets_text c.args.key.now space) ≤ length c.args.out.now = let room = fits-room (length c.args.out.now) _ _ (sym (c.has_room-2.ensures space) ∙ c.if-not-has_room-2.false) in
    omega (arith, room, length-append c.args.port.now (octets_text c.args.key.now space)) in
    omega (arith, key_fits, c.text_length-2.ensures space)

pub returns-then-not-fits : goal.returns-then-not-fits
returns-then-not-fits c =
    let host-end : c.args.at + length c.args.head.now + c.text_length.result ≡ c.args.at + length (c.args.head.now ++ octets_text c.args.host.now space) = omega (arith, c.text_length.ensures space, length-append c.args.head.now (octets_text c.args.host.now space)) in
    let key-end : let next = c.args.at + length c.args.head.now + c.text_length.result in
    next + length c.args.port.now + c.text_length-2.result ≡ next + length (c.args.port.now ++ octets_text c.args.key.now space) = omega (arith, c.text_length-2.ensures space, length-append c.args.port.now (octets_text c.args.key.now space)) in
    let first = c.args.head.now ++ octets_text c.args.host.now space in
    let second = c.args.port.now ++ octets_text c.args.key.now space in
    let next = host-end in
    let last = key-end in
    lacks-third c.args.out.now c.args.at first second c.args.counts.now _ next _ last (sym c.fits.ensures ∙ c.if-not-fits.true)

pub returns : goal.returns
returns c =
    let host-end : c.args.at + length c.args.head.now + c.text_length.result ≡ c.args.at + length (c.args.head.now ++ octets_text c.args.host.now space) = omega (arith, c.text_length.ensures space, length-append c.args.head.now (octets_text c.args.host.now space)) in
    let key-end : let next = c.args.at + length c.args.head.now + c.text_length.result in
    next + length c.args.port.now + c.text_length-2.result ≡ next + length (c.args.port.now ++ octets_text c.args.key.now space) = omega (arith, c.text_length-2.ensures space, length-append c.args.port.now (octets_text c.args.key.now space)) in
    let first = c.args.head.now ++ octets_text c.args.host.now space in
    let second = c.args.port.now ++ octets_text c.args.key.now space in
    let next = host-end in
    let last = key-end in
    let room = sym c.fits.ensures ∙ c.if-not-fits.false in
    all-stored c.args.out.now c.args.at first second c.args.counts.now _ next _ last room
    _ _ c.write.ensures _ _ c.write-2.ensures _ _ c.write_octets.ensures
