pub mod Verdict
pub mod Laws
pub mod Masked
pub mod Requested
