use mathlib.Core.Path.{sym, ◌∙◌, ap}
use native.Mathlib.Omega.{arith}
use Rattle.choices.proofs.Turns.{left_here, left-more, left_end}
use Rattle.type_list.specs.Arrays.{kinds_met}
use Rattle.type_unions.specs.Discriminants.{discriminant_of, labels_after, labels_for}
use Rattle.type_unions.proofs.LabelsThrough.{labels-said, labels-through}
use Rattle.type_unions.proofs.discriminants.labels_for.Goals as goal

pub returns-in-Says : goal.returns-in-Says
unfolding labels_for
returns-in-Says c =
    let says = sym (ap discriminant_of c.found_at.ensures) ∙ sym c.discriminant_of.ensures ∙ c.in-Says.is in
    left_here _ _ _ c.loop.invariant (omega arith) _ (labels-said c.args.types.now (kinds_met c.args.met) c.loop.at _ says)

pub loop-preserved : goal.loop-preserved
loop-preserved c =
    let leads = sym (ap discriminant_of c.found_at.ensures) ∙ sym c.discriminant_of.ensures ∙ c.in-Through.is in
    let on = labels-through c.args.types.now (kinds_met c.args.met) c.loop.at _ leads in
    rw c.place_in-at.ensures (left-more _ _ _ c.loop.invariant (omega arith) _ on)

pub returns : goal.returns
unfolding labels_for labels_after
returns c = left_end _ _ _ c.loop.invariant (omega arith)
