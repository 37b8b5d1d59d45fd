-- Laws that other crates cite.
pub mod StageAnswers
pub mod PartsInBody
