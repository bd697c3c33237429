pub mod Set
pub mod Rows
