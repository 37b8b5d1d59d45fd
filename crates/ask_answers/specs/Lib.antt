-- The questions that a line may be, and the text of their answers.
pub mod Questions
pub mod Replies
pub mod Answers
pub mod Inner
