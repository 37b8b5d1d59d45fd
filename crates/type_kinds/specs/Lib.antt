-- Kinds of type, and what stands at an index of an encapsulation.
pub mod Names
pub mod Forms
pub mod Parts
pub mod Members
pub use Names.{Fields, Form, Unlisted, Plain, Bounded, Composite, Inert, Leaf, Text, Objref, Enum, Inner, Here}
pub use Names.{There, Kind, Labels, Of, NoLabels, Layout}
pub use Members.{Member, members_of, types_of}
pub use Parts.{long_range, place_of, written_at, place_in, on_field}
