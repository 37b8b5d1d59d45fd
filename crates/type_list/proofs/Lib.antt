-- Laws that other crates cite.
pub mod KindsMet
pub mod Positions
