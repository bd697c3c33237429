pub mod GraphText
pub mod Refusal
