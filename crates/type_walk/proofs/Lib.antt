-- Laws that other crates cite.
pub mod TypeAtCases
pub mod SeenAfter
