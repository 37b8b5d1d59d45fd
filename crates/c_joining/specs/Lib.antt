-- The C interface about joining.
pub mod Joining
