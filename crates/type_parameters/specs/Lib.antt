-- The parameters of a kind.
pub mod Parameters
