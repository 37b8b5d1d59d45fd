-- Laws that other crates cite.
pub mod TypedCases
pub mod AfterWalk
