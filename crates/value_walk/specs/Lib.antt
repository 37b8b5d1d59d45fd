-- The words of the readers that call one another.
pub mod Nested
