-- Texts put one behind the other, and how long the text of a header is.
pub mod PutsTogether
pub mod TextsMost
