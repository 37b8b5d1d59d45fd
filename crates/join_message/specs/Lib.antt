-- The joined message, and what writing it gives.
pub mod Message
pub mod Written
