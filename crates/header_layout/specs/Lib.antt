-- The order of a header's parts.
pub mod Layout
