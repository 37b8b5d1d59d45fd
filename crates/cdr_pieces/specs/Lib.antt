-- Parts as pieces.
pub mod PartPieces
