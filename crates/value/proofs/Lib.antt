-- Laws of reading into a table, and of a single item.
pub mod WalksLeaveReading
pub mod AnswerCases
