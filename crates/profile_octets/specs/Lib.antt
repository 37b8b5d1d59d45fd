-- The octets of a profile body's parts.
pub mod Octets
