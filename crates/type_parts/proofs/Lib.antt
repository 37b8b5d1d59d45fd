-- Laws of the names of an enum.
pub mod NextName
