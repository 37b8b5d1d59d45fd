-- Laws that other crates cite.
pub mod HeadersRead
pub mod HeadersWithin
pub mod ListsThere
