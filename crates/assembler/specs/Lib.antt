pub mod Assemble
pub mod AssembleLaw
pub mod Assembled
