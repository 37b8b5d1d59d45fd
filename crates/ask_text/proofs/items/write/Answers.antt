-- All of it fits, or nothing is written.
use mathlib.Core.Path.{◌≡◌, refl, sym, ◌∙◌}
use mathlib.Core.List.{◌++◌}
use mathlib.Core.Bool.{true}
use Prim.Native.Nat.{◌+◌, ◌≤◌}
use lib.ListN.{length}
use native.Mathlib.Omega.{arith}
use Rattle.cdr.specs.Limit.{fits}
use Rattle.cdr.proofs.RoomFits.{fits-room}
use Rattle.ask_text.specs.Items.{items_of, items_text}
use Rattle.ask_text.proofs.StoredTogether.{first-lacks, left-then, both-none, second_fits, both-put}
use Rattle.ask_text.proofs.items.write.Goals as goal

pub returns-then-not-fits : goal.returns-then-not-fits
returns-then-not-fits c =
    let text = items_text (items_of c.args.items.now) in
    let lacks = sym c.fits.ensures ∙ c.if-not-fits.true in
    both-none c.args.out.now c.args.at c.args.head.now text (first-lacks (length c.args.out.now) c.args.at c.args.head.now text lacks)

pub overflow_add-end : goal.overflow_add-end
overflow_add-end c =
    let head-fits : c.args.at + length c.args.head.now ≤ length c.args.out.now = fits-room (length c.args.out.now) c.args.at _ (sym c.fits.ensures ∙ c.if-not-fits.false) in
    omega (arith, head-fits)

pub overflow_sub-out : goal.overflow_sub-out
overflow_sub-out c =
    let head-fits : c.args.at + length c.args.head.now ≤ length c.args.out.now = fits-room (length c.args.out.now) c.args.at _ (sym c.fits.ensures ∙ c.if-not-fits.false) in
    omega (arith, head-fits)

pub returns-then-not-fit : goal.returns-then-not-fit
returns-then-not-fit c =
    let head-fits : c.args.at + length c.args.head.now ≤ length c.args.out.now = fits-room (length c.args.out.now) c.args.at _ (sym c.fits.ensures ∙ c.if-not-fits.false) in
    let text = items_text (items_of c.args.items.now) in
    let left = left-then (length c.args.out.now) c.args.at c.args.head.now text _ refl (head-fits) in
    both-none c.args.out.now c.args.at c.args.head.now text (sym left ∙ sym c.fit.ensures ∙ c.if-not-fit.true)

pub put-requires : goal.put-requires
put-requires c =
    let head-fits : c.args.at + length c.args.head.now ≤ length c.args.out.now = fits-room (length c.args.out.now) c.args.at _ (sym c.fits.ensures ∙ c.if-not-fits.false) in
    let all_fit : fits (length c.args.out.now) c.args.at (length (c.args.head.now ++ items_text (items_of c.args.items.now))) ≡ true = sym (left-then (length c.args.out.now) c.args.at c.args.head.now (items_text (items_of c.args.items.now)) _ refl (head-fits))
    ∙ sym c.fit.ensures
    ∙ c.if-not-fit.false in
    second_fits c.args.out.now c.args.at c.args.head.now (items_text (items_of c.args.items.now)) (all_fit) _ _ c.write_octets.ensures

pub returns : goal.returns
returns c =
    let head-fits : c.args.at + length c.args.head.now ≤ length c.args.out.now = fits-room (length c.args.out.now) c.args.at _ (sym c.fits.ensures ∙ c.if-not-fits.false) in
    let all_fit : fits (length c.args.out.now) c.args.at (length (c.args.head.now ++ items_text (items_of c.args.items.now))) ≡ true = sym (left-then (length c.args.out.now) c.args.at c.args.head.now (items_text (items_of c.args.items.now)) _ refl (head-fits))
    ∙ sym c.fit.ensures
    ∙ c.if-not-fit.false in
    let text = items_text (items_of c.args.items.now) in
    both-put c.args.out.now c.args.at c.args.head.now text (all_fit) _ _ c.write_octets.ensures _ _ c.put.ensures
