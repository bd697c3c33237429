pub mod Requests
pub mod Law
pub mod Shows
pub mod Whole
