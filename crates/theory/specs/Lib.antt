pub mod Graph
pub mod Build
pub mod Listing
