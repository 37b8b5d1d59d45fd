-- Laws of unions.
pub mod LabelsThrough
pub mod Chosen
