-- What the table of steps has.
pub mod StepNoted
pub mod MemberSteps
pub mod TableFilled
