pub mod Edits
pub mod Copies
