pub mod Walks
pub mod Search
pub mod Reach
pub mod Disassembly
pub mod Laws
pub mod Tree
pub mod Depth
pub mod LowPoints
