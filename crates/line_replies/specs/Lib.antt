-- What a line is answered, about a header or about another thing.
pub mod Replies
