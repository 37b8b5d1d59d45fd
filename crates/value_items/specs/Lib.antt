-- Single items of a value.
pub mod Items
pub mod Rows
