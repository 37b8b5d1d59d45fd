-- Items of a value, written one after the other.
pub mod Inner
