-- The labels of a union whose discriminant stands at a place.
use Rattle.choices.proofs.Turns.{Left}
use Rattle.type_list.specs.Arrays.{kinds_met}
use Rattle.type_numbers.specs.{kinds_limit}
use Rattle.type_unions.specs.Discriminants.{labels_after}
use Rattle.type_unions.proofs.discriminants.labels_for.Given as goal

abbrev pub invariant-loop : goal.invariant-loop
invariant-loop l = Left (labels_after l.types (kinds_met l.met)) kinds_limit l.initial.at l.counter l.at
