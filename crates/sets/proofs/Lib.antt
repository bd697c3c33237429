pub mod Bit
pub mod Lowest
pub mod Number
pub mod Cleared
pub mod Masks
pub mod Pairs
pub mod Single
