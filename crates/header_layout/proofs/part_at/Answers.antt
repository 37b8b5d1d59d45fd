-- The part of a number is what `get` gives.
use Rattle.std.proofs.Common.{arith}
use Rattle.std.proofs.lemmas.Grind.{common_steps}
use Rattle.std.proofs.lemmas.Option.{gets}
use Rattle.header_layout.proofs.PartsNumbered.{part-got}
use Rattle.header_layout.proofs.part_at.Goals as goal

pub returns : goal.returns
returns c = rw (← c.parts_of.ensures, ← part-got, c.copied.ensures) (grind (arith, common_steps, gets))
