pub mod First
pub mod Fault
pub mod Layer
pub mod Neighbours
pub mod Store
