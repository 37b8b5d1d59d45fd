-- Laws that other crates cite.
pub mod Ended
pub mod PartsRead
pub mod PartFacts
