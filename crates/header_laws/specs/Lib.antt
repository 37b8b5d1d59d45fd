-- A header that was written back.
pub mod Written
