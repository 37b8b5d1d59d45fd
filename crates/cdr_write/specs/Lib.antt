-- Octets stored in lent memory, and pieces written one after the other.
pub mod Write
pub mod Pieces
