pub mod QueryRead
pub mod QueryLaw
