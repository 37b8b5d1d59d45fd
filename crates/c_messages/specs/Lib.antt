-- The C interface about lines and messages.
pub mod Answers
