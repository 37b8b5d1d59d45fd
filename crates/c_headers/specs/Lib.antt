-- The C interface about Request and Reply headers.
pub mod Answers
