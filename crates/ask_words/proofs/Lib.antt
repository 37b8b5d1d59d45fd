-- Words found and compared, words by their places, where the words of the questions stand, and samples.
pub mod FirstWordEnds
pub mod WordsLeft
pub mod AnswersDecided
pub mod FieldsFound
pub mod Samples
