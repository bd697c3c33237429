pub mod Agree
pub mod Compare
pub mod Same
