pub mod Replay
pub mod Inner
pub mod Law
