-- A header read part by part.
pub mod Reading
pub mod Groups
