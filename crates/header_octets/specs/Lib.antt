-- The octets of a header's parts.
pub mod Octets
