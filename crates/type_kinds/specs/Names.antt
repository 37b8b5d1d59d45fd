-- The types that the code declares, and their variants where no two types share one.
use Rattle.type_kinds.specs.declared
pub use declared.{Form.Form, Inert.Inert, Kind.Kind, Fields.Fields, Layout.Layout}
pub use declared.{Inner.Inner, Inner.TheVariants.Here, Inner.TheVariants.There, Labels.Labels}
pub use declared.{Labels.TheVariants.Of, Labels.TheVariants.NoLabels}
pub use declared.Form.TheVariants.{Unlisted, Plain, Bounded, Composite}
pub use declared.Inert.TheVariants.{Leaf, Text, Objref, Enum}
