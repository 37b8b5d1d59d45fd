-- Where a kind may stand, and a union's default and labels.
pub mod Fields
