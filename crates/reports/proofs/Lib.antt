pub mod Best
pub mod Reduces
