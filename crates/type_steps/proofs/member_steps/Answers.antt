use mathlib.Core.Path.{sym, ◌∙◌}
use native.Mathlib.Omega.{arith}
use Rattle.type_steps.proofs.MemberSteps.{members-cut, members-more, members-all}
use Rattle.type_steps.proofs.member_steps.Goals as goal

pub returns-in_default : goal.returns-in_default
returns-in_default c =
    members-cut c.loop.invariant (omega arith) (sym c.member_at.ensures ∙ c.in_default.is)

pub loop-preserved : goal.loop-preserved
loop-preserved c =
    let found = sym c.member_at.ensures ∙ c.in-Some.is in
    members-more c.loop.invariant (omega arith) found c.place_in.ensures c.note.ensures

pub returns : goal.returns
returns c = members-all c.loop.invariant (omega arith)
