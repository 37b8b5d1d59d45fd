-- Items by their places, texts one behind the other, the text of octets, the text before them, and samples.
pub mod ItemsJoined
pub mod StoredTogether
pub mod OctetsPut
pub mod TextsFit
pub mod Samples
