-- The text of the answers.
pub mod Items
pub mod Replies
pub mod Inner
