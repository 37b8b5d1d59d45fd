-- Laws of tests and of loops.
pub mod Choices
pub mod Exits
pub mod Tuples
pub mod Turns
