-- Rewriting a value.
pub mod Written
pub mod Rewriting
pub mod RoundTrip
