-- What a word stands for, by the steps of reading it; and the octets in a memory that has room for them.
pub mod WordsRead
pub mod OctetsStand
