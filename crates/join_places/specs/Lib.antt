-- The record of a recording and its four places.
pub mod Places
