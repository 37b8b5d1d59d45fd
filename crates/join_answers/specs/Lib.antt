-- The answers to a line.
pub mod Answers
