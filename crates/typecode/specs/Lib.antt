-- The check of a TypeCode.
pub mod TypeCode
