-- The samples of paper 01 that are to be proved, and inputs that are easily got wrong, a table for each subject.
pub mod Tables
pub mod Numbers
pub mod Frames
pub mod Lines
pub mod TypeQuestions
pub mod Types
pub mod Slips
pub mod ValueQuestions
pub mod Values
pub mod Rewritings
pub mod Profiles
pub mod Headers
pub mod CInterface
pub mod Samples
