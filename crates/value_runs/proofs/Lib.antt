-- Laws of visits in a row.
pub mod RowsAtOnce
