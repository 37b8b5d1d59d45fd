-- The frame header.
pub mod Messages
pub mod Header
pub mod Frames
pub mod Inner
