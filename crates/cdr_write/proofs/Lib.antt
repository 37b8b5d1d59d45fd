-- Laws that other crates cite.
pub mod BufferHolds
pub mod PiecesWritten
