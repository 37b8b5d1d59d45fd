-- A single item by its number.
pub mod Single
pub mod Inner
