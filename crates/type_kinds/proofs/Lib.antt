-- Laws that other crates cite.
pub mod FieldInside
pub mod NextMember
