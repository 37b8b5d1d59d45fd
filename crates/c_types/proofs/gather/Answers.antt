-- An entry below the number of kinds is one of the list's, and from there on nothing is left to be set.
use Rattle.std.proofs.Common.{◌≤◌, ◌<◌, length, refl, sym, ◌∙◌, arith}
use Rattle.type_list.specs.Arrays.{kinds_held, kinds_met}
use Rattle.type_list.proofs.KindsMet.{length-kinds}
use Rattle.c_types.specs.Types.{place_number, start_number, order_number}
use Rattle.c_types.proofs.EntriesGathered.{set_more, set_all}
use Rattle.c_types.proofs.gather.Goals as goal

pub loop-i-preserved : goal.loop-i-preserved
loop-i-preserved c =
    let met = c.args.met in
    let all = c.loop-i.all in
    let low : c.loop-i.i < kinds_held met = omega (arith, c.loop-i-test.true, c.held_in-i-end.ensures) in
    let kept = c.loop-i.invariant in
    record {
      places = set_more met c.loop-i.i low place_number all.places _ refl ∙ kept.places;
      starts = set_more met c.loop-i.i low start_number all.starts _ refl ∙ kept.starts;
      orders = set_more met c.loop-i.i low order_number all.orders _ c.octet_of.ensures ∙ kept.orders;
    }

pub returns : goal.returns
returns c =
    let ks = kinds_met c.args.met in
    let all = c.loop-i.all in
    let over : length ks ≤ c.loop-i.i = omega (arith, c.loop-i-test.false, c.held_in-i-end.ensures, length-kinds c.args.met) in
    let kept = c.loop-i.invariant in
    record {
      places = sym (set_all place_number ks c.loop-i.i all.places over) ∙ kept.places;
      starts = sym (set_all start_number ks c.loop-i.i all.starts over) ∙ kept.starts;
      orders = sym (set_all order_number ks c.loop-i.i all.orders over) ∙ kept.orders;
    }
