-- What a value is read under.
pub mod Typed
