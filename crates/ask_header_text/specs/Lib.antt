-- The text of what a message's header says.
pub mod Texts
pub mod Inner
