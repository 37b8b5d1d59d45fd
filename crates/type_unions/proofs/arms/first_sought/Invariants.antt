-- Member by member, until one is sought.
use Rattle.choices.proofs.Turns.{Left}
use Rattle.type_unions.proofs.Chosen.{seeks}
use Rattle.type_unions.proofs.arms.first_sought.Given as goal

abbrev pub invariant-loop-k : goal.invariant-loop-k
invariant-loop-k l = Left (seeks l.sought l.labels l.types l.fields.start l.fields.order) l.fields.count (0, l.fields.first) l.k (l.k, l.at)
