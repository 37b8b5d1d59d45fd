-- The texts, numbers, counts and encapsulations of a type's parameters, and the refusals of a type.
pub mod Names
pub mod Refusals
pub mod Counts
pub use Names.{Refusal, Ends, NoSuchKind, BadEncapsulation, BadUnion, BadTarget}
pub use Names.{TooManyKinds, TooDeep, BelowTop, TooLong}
