-- Name by name.
use Rattle.choices.proofs.Turns.{Left}
use Rattle.type_counts.specs.Counts.{texts_step}
use Rattle.type_parts.proofs.texts_step.Given as goal

abbrev pub invariant-loop : goal.invariant-loop
invariant-loop l = Left (texts_step l.part l.order) l.count l.initial.next l.counter l.next
