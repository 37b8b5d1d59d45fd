-- The headers of requests and replies.
pub mod Header
pub mod Numbered
pub mod Rows
pub mod Within
