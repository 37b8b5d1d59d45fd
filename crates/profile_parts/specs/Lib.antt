-- The parts of a profile body.
pub mod Parts
