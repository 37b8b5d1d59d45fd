-- Loops among kinds.
pub mod Loops
pub mod Inner
