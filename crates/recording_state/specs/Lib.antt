-- Where a recording stands.
pub mod States
