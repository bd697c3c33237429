pub mod Build
pub mod BuildLaw
