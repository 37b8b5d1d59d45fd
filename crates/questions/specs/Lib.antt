-- Questions, one a line, answered block by block.
pub mod Blocks
pub mod Calls
pub mod Turns
