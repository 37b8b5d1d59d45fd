-- The search in the filled table.
use mathlib.Core.Path.{◌∙◌}
use Rattle.type_steps.proofs.TableFilled.{filled-found}
use mathlib.Core.Path.{sym, ap}
use Prim.Native.Nat.{ℕ, min}
use native.Mathlib.Nat.{min-eq_left}
use Rattle.type_loops.specs.Loops.{loop_found, cell}
use Rattle.type_numbers.specs.{kinds_limit}
use Rattle.type_list.proofs.KindsMet.{length-kinds, kinds-few}
use Rattle.type_steps.proofs.loops_back.Goals as goal

pub returns : goal.returns
returns c =
    c.has_loop.ensures ∙ ap (λ (n : ℕ). loop_found (min n kinds_limit) (cell c.step_table-table.result.rows)) (c.held_in.ensures ∙ sym (length-kinds c.args.met))
    ∙ ap (λ (n : ℕ). loop_found n (cell c.step_table-table.result.rows)) (min-eq_left (kinds-few c.args.met)) ∙ filled-found _ _ _ c.step_table-table.ensures
