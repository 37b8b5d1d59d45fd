-- Laws that other crates cite.
pub mod FieldsRead
pub mod FieldsWithin
pub mod ExtentsTaken
pub mod TaggedWithin
