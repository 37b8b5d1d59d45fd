-- The lines of a recording that is read in blocks.
pub mod Lines
pub mod Inner
