pub mod Discoveries
pub mod Order
pub mod Sets
pub mod Standing
pub mod Folding
pub mod Survey
