-- The measure of each function of the cycle is the levels left and a constant: it falls at each call.
use Rattle.std.proofs.Common.{◌+◌, ◌*◌}
use Rattle.type_walk.specs.Walk.{seen}
use Rattle.type_walk.specs.Types.{type_at}
use Rattle.choices.proofs.Turns.{Left}
use Rattle.type_walk.proofs.TypeAtCases.{members_for}
use Rattle.type_walk.proofs.+walk.Given as goal

abbrev pub decreases-check : goal.decreases-check
decreases-check l = l.left * 5

abbrev pub decreases-inside : goal.decreases-inside
decreases-inside l = l.left * 5 + 4

abbrev pub decreases-member_types : goal.decreases-member_types
decreases-member_types l = l.left * 5 + 1

abbrev pub decreases-parameters : goal.decreases-parameters
decreases-parameters l = l.left * 5 + 3

abbrev pub decreases-unlabelled : goal.decreases-unlabelled
decreases-unlabelled l = l.left * 5 + 2

abbrev pub decreases-switched : goal.decreases-switched
decreases-switched l = l.left * 5 + 2

-- the members that are left give the answer of all
abbrev pub invariant-member_types-loop-k : goal.invariant-member_types-loop-k
invariant-member_types-loop-k l =
    Left (members_for l.types (type_at l.types l.left) l.labels l.default l.part l.start l.order l.first) l.count
    (0, l.first, seen l.initial.w) l.k (l.k, l.at, seen l.w)
