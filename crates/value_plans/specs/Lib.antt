-- Plans of structs whose members are all kinds without parameters.
pub mod Plans
