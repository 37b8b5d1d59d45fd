-- The readers' sink, and where a walk over a value is.
pub mod Lent
pub mod Walk
