pub mod Spanning
pub mod Crossing
pub mod Driving
pub mod Laws
