-- Folds over the places, the place of a request id, the messages open and their lengths, and records that are not refused.
pub mod FoldsChanged
pub mod PlaceOfId
pub mod OpenCounts
pub mod RecordSound
