-- The octets that a word stands for.
pub mod Octets
