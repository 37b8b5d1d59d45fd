-- Laws that other crates cite.
pub mod ItemsInTable
pub mod RepeatsLoop
