-- The parts of Request and Reply headers.
pub mod Parts
pub mod Targets
