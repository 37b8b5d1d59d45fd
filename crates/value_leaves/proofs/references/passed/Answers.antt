-- Octets are taken as they are.
use Rattle.std.proofs.Common.{refl}
use Rattle.value_meaning.specs.Sinks.{taken}
use Rattle.value_leaves.proofs.references.passed.Goals as goal

pub returns : goal.returns
unfolding taken
returns c = λ m table p l. refl
