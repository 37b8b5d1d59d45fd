-- The C interface about a header that is written back.
pub mod Heads
