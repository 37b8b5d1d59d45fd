-- What a line does.
pub mod Steps
pub mod Inner
