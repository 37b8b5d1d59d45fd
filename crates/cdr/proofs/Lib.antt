-- Laws that other crates cite.
pub mod GapsBounded
pub mod NumbersGivenBack
pub mod RoomFits
