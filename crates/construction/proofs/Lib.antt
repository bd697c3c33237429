pub mod First
pub mod Joins
pub mod Inner
pub mod Going
pub mod Plays
pub mod Laws
