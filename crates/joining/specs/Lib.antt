-- What a step answers, and what it leaves.
pub mod Answers
