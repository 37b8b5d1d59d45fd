-- What each step says of its line, and what holds after any lines.
pub mod PartsAfterStores
pub mod StepFacts
pub mod MessageFits
pub mod HeldParts
pub mod PartsHeld
pub mod SameFromAlike
