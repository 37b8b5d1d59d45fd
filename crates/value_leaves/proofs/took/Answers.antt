-- A number is taken.
use Rattle.std.proofs.Common.{refl}
use Rattle.value_meaning.specs.Sinks.{taken}
use Rattle.value_leaves.proofs.took.Goals as goal

pub returns : goal.returns
unfolding taken
returns c = λ m table g p n. refl
