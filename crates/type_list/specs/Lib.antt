-- The kinds met.
pub mod Met
pub mod Arrays
