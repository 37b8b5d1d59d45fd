-- The header corrected in the output, and the answers of the writer.
pub mod HeaderCorrected
