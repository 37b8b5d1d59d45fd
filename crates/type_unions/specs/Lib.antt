-- What discriminants and labels are, which member is chosen, and what a type looks like.
pub mod Discriminants
pub mod Arms
pub mod Shapes
pub use Shapes.{Shape, look}
pub use Shapes.Shape.{fault, flat, struct, exception, union, sequence, array, alias}
