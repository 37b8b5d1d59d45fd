-- Lines one after another, and what the places hold after them.
pub mod Sequence
