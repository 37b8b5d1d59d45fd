-- Visits of one kind, one behind the other.
pub mod Inner
