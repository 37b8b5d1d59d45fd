-- The listing that the program writes of a recording.
pub mod Text
pub mod Listing
pub mod Blocks
pub mod Calls
pub mod Inner
