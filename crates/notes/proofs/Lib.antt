pub mod Poured
pub mod Strip
pub mod Turns
pub mod Reversed
pub mod Laid
pub mod Given
