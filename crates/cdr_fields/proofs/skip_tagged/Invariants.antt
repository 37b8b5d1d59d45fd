-- Turn by turn, what is left to skip leads to the same index.
use mathlib.Core.Path.{◌≡◌}
use Prim.Native.Nat.{◌-◌}
use Rattle.cdr_fields.specs.Tagged.{skip_tagged}
use Rattle.cdr_fields.proofs.skip_tagged.Given as goal

abbrev pub invariant-loop : goal.invariant-loop
invariant-loop l = skip_tagged l.s l.order (l.count - l.counter) l.next ≡ skip_tagged l.s l.order l.count l.initial.next
