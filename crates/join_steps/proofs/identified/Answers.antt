-- A fragment has its request id, and its place a message of that id.
use mathlib.Core.Path.{sym, ◌∙◌}
use borrow.Author.Tests.{eq-eqb}
use Rattle.join_steps.proofs.StepIs.{continues}
use Rattle.join_steps.proofs.identified.Goals as goal

pub fragment-requires : goal.fragment-requires
fragment-requires c =
    continues c.args.octets.now c.args.h c.args.before c.args.places.now c.args.id c.in_ok-i.i c.requires
    (eq-eqb _ _ c.if-h-eq-FRAGMENT.true) (sym c.place_of-found.ensures ∙ c.in_ok-i.ensures.ok_part)
