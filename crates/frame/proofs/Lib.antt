-- Laws of the table that several proofs and later crates cite.
pub mod Accepts
pub mod RowsPassed
pub mod WordRead
