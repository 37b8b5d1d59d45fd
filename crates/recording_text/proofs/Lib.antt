-- Messages put, one line's answer, the turns of a block, what need not be kept, the listing of a block, of the end and of a recording,
-- what decides it, and samples.
pub mod MessagePut
pub mod EntryListed
pub mod TurnEquations
pub mod ListingCut
pub mod BlockListed
pub mod EndListed
pub mod RecordingListed
pub mod ListingDetermined
pub mod SamplesComputed
