pub mod Prints
pub mod Near
pub mod Told
pub mod Law
pub mod Whole
