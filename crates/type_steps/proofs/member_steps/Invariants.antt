-- Member by member.
use Rattle.type_steps.proofs.MemberSteps.{Members}
use Rattle.type_list.specs.Arrays.{kinds_met}
use Rattle.type_steps.proofs.member_steps.Given as goal

abbrev pub invariant-loop : goal.invariant-loop
invariant-loop l =
    Members l.labels l.types (kinds_met l.met) l.fields.start l.fields.order l.i l.fields.count l.initial.rows l.initial.at l.rows l.at l.counter
