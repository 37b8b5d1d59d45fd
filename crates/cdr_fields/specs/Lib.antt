-- The fields of an encapsulation.
pub mod Encapsulation
pub mod Extents
pub mod Tagged
pub use Encapsulation.{field_of, counted_of, string_of}
