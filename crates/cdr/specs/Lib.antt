-- CDR: alignment, byte orders and numbers.
pub mod Limit
pub mod Align
pub mod Orders
pub mod Number
pub mod Inner
pub use declared.{Index.Index, Order.Order, Order.TheVariants.Big}
pub use declared.{Order.TheVariants.Little, Place.Place, Size.Size, Size.TheVariants.Four}
pub use declared.{Size.TheVariants.One, Size.TheVariants.Two, Size.TheVariants.Eight}
pub use Align.{index_of, octets, behind_gap, gap}
pub use Limit.{octets_limit}
pub use Number.{octets_of}
pub use Orders.{order_of}
