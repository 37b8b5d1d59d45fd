-- Texts, counted octets and bounds.
pub mod Text
