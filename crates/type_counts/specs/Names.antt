-- The types that the code declares, and their variants.
use Rattle.type_counts.specs.declared
pub use declared.{Refusal.Refusal}
pub use declared.Refusal.TheVariants.{Ends, NoSuchKind, BadText, BadEncapsulation, NoCount, BadUnion, BadTarget, TooManyKinds, TooDeep}
pub use declared.Refusal.TheVariants.{BelowTop, TooLong}
