pub mod Steps
pub mod Pieces
pub mod Places
pub mod Numbers
pub mod Counts
pub mod Bytes
pub mod Fields
pub mod Lines
