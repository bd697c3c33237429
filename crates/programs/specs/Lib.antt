pub mod Refusal
pub mod Replay
pub mod ReplayLaw
pub mod Done
