-- Decimal digits, characters put one behind the other, and numbers read.
pub mod DecimalIs
pub mod CharactersPut
pub mod DecimalBack
