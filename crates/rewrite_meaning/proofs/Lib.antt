-- Laws that other crates cite.
pub mod PiecesKeep
pub mod SameOctets
pub mod SevenMore
pub mod AcceptedAnyRoom
pub mod ReadBeside
pub mod GapsAreZeroed
pub mod AcceptedAnswer
pub mod RoundTripHolds
