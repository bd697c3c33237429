pub mod Turns
pub mod Session
