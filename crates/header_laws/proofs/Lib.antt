-- What was written back stands where it stood, and is read there again.
pub mod StandsBehind
pub mod FieldsAgain
pub mod TargetsAgain
pub mod PartsAgain
pub mod FrameAgain
pub mod HeadersAgain
