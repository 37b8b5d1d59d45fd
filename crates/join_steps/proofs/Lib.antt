-- What a fragment's function asks, and what each step says of its line.
pub mod StepIs
pub mod StepNeeds
