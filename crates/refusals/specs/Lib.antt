pub mod Fault
pub mod Build
