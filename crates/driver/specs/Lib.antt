pub mod Drive
pub mod DriveLaw
pub mod Inner
pub mod Driven
