-- Decimal digits written and read, and characters put one behind the other.
pub mod Decimal
pub mod Puts
pub mod Numerals
