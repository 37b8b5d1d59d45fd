-- Kind by kind.
use mathlib.Core.Path.{◌≡◌}
use lib.ListN.{length}
use Rattle.type_numbers.specs.{kinds_limit}
use Rattle.type_list.specs.Arrays.{kinds_met}
use Rattle.type_steps.specs.Inner.{RowsFilled}
use Rattle.type_steps.proofs.step_table.Given as goal

abbrev pub invariant-loop-i : goal.invariant-loop-i
invariant-loop-i l = (length l.rows ≡ kinds_limit) × RowsFilled l.types (kinds_met l.met) l.i l.rows
