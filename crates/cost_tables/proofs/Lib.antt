pub mod ColumnSums
pub mod ShownColumns
pub mod Written
