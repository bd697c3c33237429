pub mod First
pub mod Leads
pub mod Judged
pub mod Gathers
pub mod Turns
pub mod Fills
pub mod Spans
