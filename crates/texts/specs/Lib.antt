pub mod Fault
pub mod Reader
pub mod ListText
pub mod ListRead
pub mod ListWrite
pub mod ListLaw
