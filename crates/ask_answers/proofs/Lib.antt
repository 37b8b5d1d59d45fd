-- What the words of a question stand for, which answers have no items or octets, what room is enough, which profile bodies are held, what a
-- line's answer is by its words, that it fits, and that characters beyond the most of a line are not seen; and samples.
pub mod WordsStand
pub mod ItemsStand
pub mod RoomEnough
pub mod BodiesHeld
pub mod NothingHeld
pub mod WordsAnswered
pub mod LineByRoom
pub mod AnswersCut
pub mod Samples
