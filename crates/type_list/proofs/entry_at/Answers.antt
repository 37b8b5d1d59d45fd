-- The kind at a position.
use mathlib.Core.Path.{sym, ap, ◌∙◌}
use native.Mathlib.Omega.{arith}
use lib.ListN.{get_or}
use Rattle.cdr.specs.declared.Order.{Order}
use Rattle.type_kinds.specs.Parts.{place_of, written_at}
use Rattle.type_list.proofs.KindsMet.{kind-entry, kind-past}
use Rattle.type_list.proofs.entry_at.Goals as goal

pub returns-then-held_in-j : goal.returns-then-held_in-j
returns-then-held_in-j c =
    sym (kind-past c.args.met c.args.j (omega (arith, c.if-held_in-j.true, c.held_in.ensures)))

pub returns : goal.returns
returns c =
    let place = place_of (get_or c.args.met.places c.args.j 0) in
    let start = place_of (get_or c.args.met.starts c.args.j 0) in
    ap (λ (o : Order). written_at place start o) c.order_in-order.ensures
    ∙ sym (kind-entry c.args.met c.args.j (omega (arith, c.if-held_in-j.false, c.held_in.ensures)))
