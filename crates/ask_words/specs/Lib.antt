-- The words of a line, and those of a question about a value or a component.
pub mod Words
pub mod Found
pub mod Fields
pub mod Places
pub mod Inner
