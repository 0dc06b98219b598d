pub mod Columns
pub mod Lay
pub mod Views
