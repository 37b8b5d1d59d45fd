-- What the steps of answering a line about a header amount to, that more room than a message has octets is no difference, and how long the answer
-- is.
pub mod HeaderWords
pub mod HeadsGiven
pub mod HeaderLines
