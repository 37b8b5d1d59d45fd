-- The steps of the loop rule.
pub mod Steps
pub mod Inner
