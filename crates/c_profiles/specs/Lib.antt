-- The C interface about profile bodies.
pub mod Answers
