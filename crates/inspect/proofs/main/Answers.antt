-- The memory that is lent has its length.
use Rattle.std.proofs.Common.{ℕ, sym}
use Rattle.std.proofs.lemmas.List.{length-replicate}
use Rattle.inspect.proofs.main.Goals as goal

pub slice_bounds-answer_all-end-2 : goal.slice_bounds-answer_all-end-2
slice_bounds-answer_all-end-2 c = sym (length-replicate {A = ℕ} 131073 0)

pub slice_bounds-answer_all-end-3 : goal.slice_bounds-answer_all-end-3
slice_bounds-answer_all-end-3 c = sym (length-replicate {A = ℕ} 1097794 0)

pub slice_bounds-answer_all-end-4 : goal.slice_bounds-answer_all-end-4
slice_bounds-answer_all-end-4 c = sym (length-replicate {A = ℕ} 49152 0)
