-- Laws that other crates cite.
pub mod CopiedPieces
pub mod CopiedParts
pub mod HeadsWritten
