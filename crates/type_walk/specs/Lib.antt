-- The check of a TypeCode, octet by octet.
pub mod Walk
pub mod Types
