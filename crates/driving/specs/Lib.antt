pub mod Fault
pub mod Drive
pub mod DriveLaw
pub mod Counting
pub mod Marked
pub mod Subtrees
pub mod Counters
pub mod Sums
