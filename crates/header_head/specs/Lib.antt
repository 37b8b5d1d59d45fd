-- A header written back.
pub mod HeadPieces
pub mod Head
pub mod Inner
