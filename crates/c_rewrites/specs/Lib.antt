-- The C interface about rewriting.
pub mod Rewrites
