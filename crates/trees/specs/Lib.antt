pub mod Fault
pub mod Tree
pub mod Spanner
pub mod Labels
pub mod Forest
