-- The equations of a step, and what each step takes.
pub mod StepsTake
pub mod JoinedTakes
