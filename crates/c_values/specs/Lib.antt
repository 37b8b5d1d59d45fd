-- The C interface about values.
pub mod Values
