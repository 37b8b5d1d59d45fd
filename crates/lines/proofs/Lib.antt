-- Laws of lines taken from blocks, what need not be kept of a line, what the functions' steps amount to, and samples.
pub mod LinesOfBlocks
pub mod BegunCut
pub mod TakenBySteps
pub mod Samples
