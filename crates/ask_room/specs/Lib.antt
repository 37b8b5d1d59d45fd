-- The room that the answer of any line needs.
pub mod Room
