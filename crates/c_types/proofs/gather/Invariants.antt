-- Kind by kind: what is set of an array, and the numbers that are still to be set, are all of them.
use Rattle.std.proofs.Common.{◌≡◌, ℕ, List, map, drop}
use Rattle.std.proofs.lemmas.List.Edits.{sets}
use Rattle.type_kinds.specs.declared.Kind.{Kind}
use Rattle.type_list.specs.declared.Met.{Met}
use Rattle.type_list.specs.Arrays.{kinds_met}
use Rattle.c_types.specs.Types.{entries_of, place_number, start_number, order_number}
use Rattle.c_types.proofs.gather.Given as goal

abbrev Rest : (Kind → ℕ) → Met → ℕ → List ℕ → Type 0
Rest f met i l = sets l i (map f (drop i (kinds_met met))) ≡ entries_of f (kinds_met met)

abbrev pub invariant-loop-i : goal.invariant-loop-i
invariant-loop-i l = record {
  places : Rest place_number l.met l.i l.all.places;
  starts : Rest start_number l.met l.i l.all.starts;
  orders : Rest order_number l.met l.i l.all.orders;
}
