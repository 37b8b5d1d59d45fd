-- Bits, the cells of steps, tests of the numbers below one, the closure, loops decided, ranks, and the rounds of the code.
pub mod RowBits
pub mod CellsAfter
pub mod SomeBelow
pub mod ClosureWays
pub mod LoopDecided
pub mod RankFalls
pub mod RoundsDone
