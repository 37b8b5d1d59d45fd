-- The questions about the header of a message, and the text of their answers.
pub mod HeaderQuestions
pub mod HeaderReplies
pub mod Inner
