-- Each turn moves on in the block.
use Rattle.std.proofs.Common.{length, ◌-◌}
use Rattle.inspect.proofs.take_block.Given as goal

abbrev pub decreases-loop-from : goal.decreases-loop-from
decreases-loop-from g l = length l.block - l.from
