-- All of it fits, or nothing is written.
use mathlib.Core.Path.{sym, ◌∙◌}
use native.Mathlib.Omega.{arith}
use Rattle.ask_text.specs.Replies.{octets_text}
use Rattle.ask_text.proofs.StoredTogether.{second_fits, both-put}
use Rattle.ask_text.proofs.octets.write.Goals as goal

pub overflow_add-at : goal.overflow_add-at
overflow_add-at c =
    let room = sym (c.has_room.ensures c.args.behind) ∙ c.if-not-has_room.false in
    let text = octets_text c.args.octets.now c.args.behind in
    omega (arith, second_fits c.args.out.now c.args.at c.args.head.now text room _ _ c.write_octets.ensures, c.write_octets.auto.out)

pub put-requires : goal.put-requires
put-requires c =
    let room = sym (c.has_room.ensures c.args.behind) ∙ c.if-not-has_room.false in
    second_fits c.args.out.now c.args.at c.args.head.now (octets_text c.args.octets.now c.args.behind) room _ _ c.write_octets.ensures

pub returns : goal.returns
returns c =
    let room = sym (c.has_room.ensures c.args.behind) ∙ c.if-not-has_room.false in
    let text = octets_text c.args.octets.now c.args.behind in
    both-put c.args.out.now c.args.at c.args.head.now text room _ _ c.write_octets.ensures _ _ c.put.ensures
