-- The numbers of kinds, by name.
pub mod Kinds
pub use Kinds.{kinds_limit, indirection_kind}
