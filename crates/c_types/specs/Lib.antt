-- The C interface about types.
pub mod Types
