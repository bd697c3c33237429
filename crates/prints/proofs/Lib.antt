pub mod Rows
pub mod Writes
